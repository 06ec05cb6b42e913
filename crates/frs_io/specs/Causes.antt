-- What stands behind an answer that isn't Ok: each object counts the calls on it that failed.
use Rattle.std.specs.Prelude.{ℕ, ◌+◌, ◌-◌, ◌^◌, ◌≤◌, min, Result, OnErr, IsErrOf}
use Rattle.frs_io.specs.declared.sink.WriteError.{WriteError}
use Rattle.frs_io.specs.declared.sink.WriteError.TheVariants.{Failed}

-- one fault more; a count at its last value stays there
abbrev pub raised : ℕ → ℕ
raised count = min (count + 1) (2 ^ 64 - 1)

-- a count of faults has risen; one that stays at its last value is taken as risen
abbrev pub Rose : ℕ → ℕ → Type 0
Rose before now = raised before ≤ now

-- a count of faults never falls, and an error comes only where it rose
pub record HasCause {T E : Type 0} (before now : ℕ) (result : Result T E) : Type 0 where
  pub later : before ≤ now
  pub failed : OnErr result (Rose before now)

-- the same of a write, which may also lack memory
pub record HasWriteCause {T : Type 0} (before now : ℕ) (result : Result T WriteError) : Type 0 where
  pub later : before ≤ now
  pub failed : IsErrOf result Failed → Rose before now
