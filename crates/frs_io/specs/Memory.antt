-- What contracts see of a source or a sink in memory that fails at given calls.
use Rattle.std.specs.Prelude.{◌≡◌, ℕ, List}
use Rattle.frs_io.specs.Causes.{raised}

-- the bytes that are left to read, or that were taken, how many calls were made, the numbers of those that are to fail, and how many failed
pub record MemoryState : Type 0 where
  pub bytes : List ℕ
  pub calls : ℕ
  pub failing : List ℕ
  pub faults : ℕ

-- one call more was made, and the same calls are to fail
pub record CountsCall (old new : MemoryState) : Type 0 where
  pub calls : new.calls ≡ raised old.calls
  pub failing : new.failing ≡ old.failing
