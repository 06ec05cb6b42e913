use Rattle.std.proofs.Common.{◌≡◌, ◌<◌, ℕ}
use Rattle.credit_gate.specs.Rule.{alone, times}
use Rattle.credit_gate.proofs.Tries.{after}
use Rattle.credit_gate.proofs.gate.Gate.try_enter.Given as goal

-- each place so far was found taken
abbrev pub invariant-loop-place : goal.invariant-loop-place
invariant-loop-place l = record {
  name : l.seat.name ≡ l.fn.seat.name;
  view : l.seat.view ≡ after l.place l.self.limit l.fn.seat.view;
  has : alone l.fn.seat.view ≡ 1 → (i : ℕ) → i < l.place → 0 < times i l.fn.seat.view.places;
}
