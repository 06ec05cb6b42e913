-- The place of a refusal.
use Rattle.std.specs.Prelude.{ℕ}
use Rattle.ndr_core.specs.declared.refusal.NdrBad.{NdrBad}
use Rattle.ndr_core.specs.declared.refusal.NdrBad.TheVariants.{Short, Count, Terminator, Value, Rest}

-- the place that is refused
abbrev pub place_of : NdrBad → ℕ
place_of (Short at) = at
place_of (Count at) = at
place_of (Terminator at) = at
place_of (Value at) = at
place_of (Rest at) = at
