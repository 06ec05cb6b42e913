-- Which slot a load takes.
use Rattle.std.specs.Prelude.{ℕ, ◌≡◌, true, false, List, Some, None}
use Rattle.frs_journal.specs.Slots.{generation_of, is_bad, takes_b}
use Rattle.frs_journal.specs.declared.choice.Head.{Head}
use Rattle.frs_journal.specs.declared.choice.Head.TheVariants as head
use Rattle.frs_journal.specs.declared.choice.Pick.{Pick}
use Rattle.frs_journal.specs.declared.choice.Pick.TheVariants as picked
use Rattle.frs_journal.specs.declared.faults.Slot.TheVariants as slot

-- what the header of a slot says
abbrev pub IsHead : List ℕ → Head → Type 0
IsHead c head.Nothing = (is_bad c ≡ false) × (generation_of c ≡ None)
IsHead c head.Bad = is_bad c ≡ true
IsHead c (head.Valid generation) = (is_bad c ≡ false) × (generation_of c ≡ Some generation)

-- which of two slots is taken, or the first that has another magic
abbrev pub Picks : List ℕ → List ℕ → Pick → Type 0
Picks a b (picked.Bad slot.B) = (is_bad a ≡ false) × (is_bad b ≡ true)
Picks a b (picked.Bad slot.A) = is_bad a ≡ true
Picks a b picked.Neither = (is_bad a ≡ false) × (is_bad b ≡ false) × (generation_of a ≡ None) × (generation_of b ≡ None)
Picks a b (picked.Taken slot.A) = (is_bad a ≡ false) × (is_bad b ≡ false) × ((generation_of a ≡ None) → ⊥) × (takes_b (generation_of a) (generation_of b) ≡ false)
Picks a b (picked.Taken slot.B) = (is_bad a ≡ false) × (is_bad b ≡ false) × ((generation_of b ≡ None) → ⊥) × (takes_b (generation_of a) (generation_of b) ≡ true)
