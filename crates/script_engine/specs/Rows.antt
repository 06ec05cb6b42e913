-- How a volume's objects give the rows of its tree.
use Rattle.std.specs.Prelude.{◌==◌, ℕ, zero, suc, List, [], ◌∷◌, Option, Some, None, if◌then◌else◌, length, option_map, reverse}
use Rattle.std.specs.List.{filter_map}
use Rattle.std.specs.Cmp.Lexicographic.{slice_cmp}
use Rattle.std.specs.Ordering.{nat_cmp}
use Rattle.std.specs.declared.cmp.Ordering.{Ordering}
use Rattle.vol_state.specs.declared.object.Object.{Object}
use Rattle.vol_state.specs.Places.{object_at}
use Rattle.script_engine.specs.Trees.{Row}

-- the place of an object that may be there
abbrev pub place_in : Option Object → Option (ℕ × List ℕ)
place_in None = None
place_in (Some o) = o.place

-- the names from a place up to the root, at most n of them; none where they don't lead there
abbrev pub names_up : List Object → ℕ → Option (ℕ × List ℕ) → Option (List (List ℕ))
names_up objects zero place = None
names_up objects (suc n) None = None
names_up objects (suc n) (Some place) =
    if place.0 == 0 then Some (place.1 ∷ []) else option_map (λ names. place.1 ∷ names) (names_up objects n (place_in (object_at objects place.0)))

-- the row of an object; none where no path leads to it
abbrev pub row_of : List Object → Object → Option Row
row_of objects o = option_map (λ names. record { path = reverse names; object = o }) (names_up objects (length objects) o.place)

-- the rows, in order of the objects' numbers
abbrev pub rows_of : List Object → List Row
rows_of objects = filter_map (row_of objects) objects

-- paths compare name by name, and names unit by unit
abbrev pub path_cmp : List (List ℕ) → List (List ℕ) → Ordering
path_cmp = slice_cmp (slice_cmp nat_cmp)
