-- What steps make of a seat's view.
use Rattle.std.specs.Prelude.{◌≡◌, ◌+◌, ◌<◌, ◌==◌, ℕ, Bool, List, [], ◌∷◌, ◌++◌, zero, suc, if◌then◌else◌, false, true}
use Rattle.credit_gate.specs.Rule.{alone, times}
use Rattle.credit_gate.specs.declared.gate.Entry.{Entry}
use Rattle.credit_gate.specs.declared.gate.Entry.TheVariants as entries
use Rattle.credit_gate.specs.declared.view.View.{View}

-- the place was free, and is the seat's
abbrev pub entered : ℕ → View → View
entered place v = record {
  places = v.places ++ place ∷ [];
  tried = v.tried ++ (place, 0) ∷ [];
  entered = v.entered + 1;
  busy = v.busy;
  splits = v.splits;
  first = v.first;
}

-- it was taken, which is so often the last try of a busy answer
abbrev pub refused : ℕ → ℕ → View → View
refused last place v = record {
  places = v.places;
  tried = v.tried ++ (place, 1) ∷ [];
  entered = v.entered;
  busy = v.busy + last;
  splits = v.splits;
  first = v.first;
}

-- by whether the place was free
abbrev pub IsEntered : Bool → ℕ → ℕ → View → View → Type 0
IsEntered true last place v w = w ≡ entered place v
IsEntered false last place v w = (w ≡ refused last place v) × (alone v ≡ 1 → 0 < times place v.places)

-- by the number that was found
abbrev pub Tried : ℕ → ℕ → View → ℕ → View → Type 0
Tried last place v found w = IsEntered (found == 0) last place v w

-- the places without one that is left
abbrev pub without : ℕ → List ℕ → List ℕ
without place [] = []
without place (p ∷ ps) = if p == place then ps else p ∷ without place ps

abbrev pub left : ℕ → View → View
left place v = record { places = without place v.places; tried = v.tried; entered = v.entered; busy = v.busy; splits = v.splits; first = v.first }

-- one more seat is split off
abbrev pub split_off : View → View
split_off v = record { places = v.places; tried = v.tried; entered = v.entered; busy = v.busy; splits = v.splits + 1; first = v.first }

-- the view of two seats that become the first of them
abbrev pub joined : View → View → View
joined v w = record {
  places = v.places ++ w.places;
  tried = v.tried ++ w.tried;
  entered = v.entered + w.entered;
  busy = v.busy + w.busy;
  splits = v.splits + w.splits;
  first = v.first;
}

-- the first so many places, each found taken
abbrev pub taken : ℕ → List (ℕ × ℕ)
taken zero = []
taken (suc n) = taken n ++ (n, 1) ∷ []

-- the answer of a gate with so many places: the first that was found free, or none
abbrev pub Answers : Entry → ℕ → View → View → Type 0
Answers (entries.Entered place) limit v w =
    (place < limit)
    × (w ≡ record { places = v.places ++ place ∷ []; tried = v.tried ++ taken place ++ (place, 0) ∷ []; entered = v.entered + 1; busy = v.busy; splits = v.splits; first = v.first })
Answers entries.Busy limit v w = w ≡ record { places = v.places; tried = v.tried ++ taken limit; entered = v.entered; busy = v.busy + 1; splits = v.splits; first = v.first }

-- the seat was let in
abbrev pub HasEntered : Entry → Type 0
HasEntered (entries.Entered place) = Unit {0}
HasEntered entries.Busy = ⊥
