-- The tree of a volume, as it is printed.
use Rattle.std.specs.Prelude.{◌≡◌, ◌==◌, ◌&&◌, ◌||◌, nat_lt, ℕ, suc, Bool, true, false, not, List, [], ◌∷◌, codes, decimal, filter, flat_map, length, map}
use Rattle.std.specs.List.{AllByRecursion, join_with_byte}
use Rattle.frs_base.specs.Options.{In}
use Rattle.frs_base.specs.declared.kind.Kind.{Kind}
use Rattle.frs_base.specs.declared.kind.Kind.TheVariants.{File, Directory}
use Rattle.vol_state.specs.declared.object.Object.{Object}
use Rattle.vol_state.specs.Maps.{Maps}
use Rattle.vol_state.specs.Places.{is_directory}
use Rattle.name_rules.specs.Tree.{StandsAt}
use Rattle.hex.specs.Hex.{encode_lower}
use Rattle.script_engine.specs.Printed.{name_word, printed}

-- a name is the lower by its units
abbrev pub units_lt : List ℕ → List ℕ → Bool
units_lt a [] = false
units_lt [] (c ∷ b) = true
units_lt (x ∷ a) (y ∷ b) = nat_lt x y || (x == y && units_lt a b)

-- they are one name
abbrev pub same_units : List ℕ → List ℕ → Bool
same_units [] [] = true
same_units [] (y ∷ b) = false
same_units (x ∷ a) [] = false
same_units (x ∷ a) (y ∷ b) = x == y && same_units a b

-- a path is the lower by its names
abbrev pub path_lt : List (List ℕ) → List (List ℕ) → Bool
path_lt a [] = false
path_lt [] (y ∷ b) = true
path_lt (x ∷ a) (y ∷ b) = units_lt x y || (same_units x y && path_lt a b)

-- an object and its path
pub record Row : Type 0 where
  pub path : List (List ℕ)
  pub object : Object

-- in order of their paths, each once
abbrev pub IsByPath : List Row → Type 0
IsByPath [] = Unit {0}
IsByPath (row ∷ rows) = AllByRecursion (λ other. path_lt row.path other.path ≡ true) rows × IsByPath rows

-- what is reached from the root of a volume, in order of the paths
pub record IsTreeOf (m : Maps) (rows : List Row) : Type 0 where
  pub ordered : IsByPath rows
  pub each : (row : Row) → In row rows → StandsAt m 0 row.path row.object
  pub whole : (path : List (List ℕ)) (o : Object) → StandsAt m 0 path o → In (record { path = path; object = o }) rows

-- a path as text: its names, with `/` between
abbrev pub path_word : List (List ℕ) → List ℕ
path_word path = join_with_byte 47 (map name_word path)

-- `d` and the path of a directory; `f`, the path and the length of a file
abbrev pub row_words : Kind → List (List ℕ) → List ℕ → List (List ℕ)
row_words Directory path bytes = codes "d" ∷ path_word path ∷ []
row_words File path bytes = codes "f" ∷ path_word path ∷ decimal (length bytes) ∷ []

-- the line of a row
abbrev pub row_text : Row → List ℕ
row_text row = printed (row_words row.object.kind row.path row.object.bytes)

-- what `tree` prints
abbrev pub tree_text : List Row → List ℕ
tree_text [] = printed (codes "tree" ∷ codes "empty" ∷ [])
tree_text (row ∷ rows) = flat_map row_text (row ∷ rows)

-- the rows that are files
abbrev pub files_of : List Row → List Row
files_of rows = filter (λ row. not (is_directory row.object.kind)) rows

-- the line of a file's sum: its bytes as lower-case hexadecimal digits, and the path
abbrev pub sum_text : Row → List ℕ
sum_text row = printed (encode_lower row.object.sum.0 ∷ path_word row.path ∷ [])

-- what `sums` prints of the files
abbrev pub sums_text : List Row → List ℕ
sums_text [] = printed (codes "sums" ∷ codes "empty" ∷ [])
sums_text (row ∷ rows) = flat_map sum_text (row ∷ rows)

-- how many of the rows are files
abbrev pub files_in : List Row → ℕ
files_in [] = 0
files_in (row ∷ rows) = one_file row.object.kind (files_in rows)
  where
    one_file : Kind → ℕ → ℕ
    one_file File n = suc n
    one_file Directory n = n
