-- What the rule of a gate says of its seats.
use Rattle.std.specs.Prelude.{◌≡◌, ◌+◌, ◌≤◌, ℕ, List, Some, length, slice_get}
use Rattle.credit_gate.specs.Rule.{Kept, times, total}
use Rattle.credit_gate.specs.declared.view.View.{View}

-- no two seats have one place
abbrev pub NoneShared : Type 0
NoneShared = (count place i j : ℕ) (words : List ℕ) (views : List View) (v w : View) → Kept count words views → (i ≡ j → ⊥) → slice_get views i ≡ Some v → slice_get views j ≡ Some w → times place v.places + times place w.places ≤ 1

-- all seats together have no more places than there are
abbrev pub NoneTooMany : Type 0
NoneTooMany = (count : ℕ) (words : List ℕ) (views : List View) → Kept count words views → total (λ v. length v.places) views ≤ count
