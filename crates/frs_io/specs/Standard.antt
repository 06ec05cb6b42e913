-- What contracts see of a source or a sink over std.
use Rattle.std.specs.Prelude.{ℕ, List}
use Rattle.std.specs.declared.option.Option.{Option}

-- the bytes that std's reader has left, or that its writer holds, where it tells them, and how many calls failed
pub record StandardState : Type 0 where
  pub told : Option (List ℕ)
  pub faults : ℕ
