use Rattle.std.proofs.Common.{sym, inl, inr}
use Rattle.win_order.specs.Order.{key_of}
use Rattle.win_order.proofs.KeyLemmas.{key_total, key_asym}
use Rattle.win_order.proofs.laws.winning_is_an_order.Goals as goal

pub returns-clause-decided : goal.returns-clause-decided
returns-clause-decided c u v file apart = (
  elim (key_total (key_of u) (key_of v) apart) [
    | inl lower ↦ inr (record { file = sym file; greater = lower })
    | inr lower ↦ inl (record { file = file; greater = lower })
  ],
  λ wins loses. key_asym (key_of v) (key_of u) wins.greater loses.greater,
)
