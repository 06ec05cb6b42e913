-- The rule of a gate: its words, and the views of its seats.
use Rattle.std.specs.Prelude.{◌≡◌, ◌⊎◌, ◌+◌, ◌<◌, ◌≤◌, ◌==◌, ◌&&◌, ℕ, Bool, List, [], ◌∷◌, if◌then◌else◌, length, slice_index, false, true}
use Rattle.credit_gate.specs.declared.view.View.{View}

-- the seat that is made with a gate
abbrev pub first_view : View
first_view = record { places = []; tried = []; entered = 0; busy = 0; splits = 0; first = true }

-- any other at its beginning, and a seat that was joined into another
abbrev pub fresh_view : View
fresh_view = record { places = []; tried = []; entered = 0; busy = 0; splits = 0; first = false }

-- the values of f, added up
abbrev pub total : (View → ℕ) → List View → ℕ
total f [] = 0
total f (v ∷ vs) = f v + total f vs

abbrev pub one_if : Bool → ℕ
one_if b = if b then 1 else 0

-- how often a place stands among places
abbrev pub times : ℕ → List ℕ → ℕ
times place [] = 0
times place (p ∷ ps) = one_if (p == place) + times place ps

-- 1 for the first seat as long as none was split off it
abbrev pub alone : View → ℕ
alone v = one_if (v.first && v.splits == 0)

-- each word is 0 or 1, and is 1 exactly where one seat has its place, once
abbrev pub Counted : List ℕ → List View → Type 0
Counted words views = (i : ℕ) → (total (λ v. times i v.places) views ≡ slice_index words i) × (slice_index words i ≤ 1)

-- there are so many words; and while the first seat has split none off, there is no other
abbrev pub Kept : ℕ → List ℕ → List View → Type 0
Kept count words views = (length words ≡ count) × Counted words views × ((total alone views ≡ 0) ⊎ (length views ≡ 1))

-- each place is one of so many
abbrev pub Below : ℕ → List ℕ → Type 0
Below count places = (place : ℕ) → 0 < times place places → place < count
