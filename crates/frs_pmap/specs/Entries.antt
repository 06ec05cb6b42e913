-- Entries in order of their keys.
use Rattle.std.specs.Prelude.{◌≡◌, List, [], ◌∷◌, Bool, Option, cond, filter, find, map, option_map, take, ℕ}
use Rattle.std.specs.Ordering.{is_le, is_lt}
use Rattle.std.specs.declared.cmp.Ordering.{Ordering}
use Rattle.std.specs.declared.cmp.Ordering.TheVariants.{Less}
use Rattle.std.specs.List.{AllByRecursion}
use Rattle.std.specs.Borrow.{Bor}
use Rattle.std.specs.Arc.{arc_value}
use Rattle.std.specs.declared.sync.Arc.{Arc}
use Rattle.std.specs.declared.alloc.Global.{Global}
use Rattle.std.specs.Map.{lookup, remove_entry}
use Rattle.std.specs.BTreeMap.{insert_entry, is_at}

-- each key is lower than all behind it
abbrev pub IsRising : {K X : Type 0} → (K → K → Ordering) → List (K × X) → Type 0
IsRising cmp [] = Unit {0}
IsRising cmp (e ∷ es) = AllByRecursion (λ f. cmp e.0 f.0 ≡ Less) es × IsRising cmp es

-- ---- what is asked of a map

-- an entry that is lent
abbrev pub lent : {K V : Type 0} → Option (K × Bor V) → Option (K × V)
lent entry = option_map (λ e. (e.0, e.1.now)) entry

-- the value at a key
abbrev pub value_at : {K X : Type 0} → (K → K → Ordering) → K → List (K × X) → Option X
value_at cmp key es = lookup (is_at (cmp key)) es

-- the entry's key is at a key or above it
abbrev pub is_from : {K X : Type 0} → (K → K → Ordering) → K → K × X → Bool
is_from cmp key e = is_le (cmp key e.0)

-- the entry's key is above a key
abbrev pub is_above : {K X : Type 0} → (K → K → Ordering) → K → K × X → Bool
is_above cmp key e = is_lt (cmp key e.0)

-- the first entry at a key or above it
abbrev pub first_from : {K X : Type 0} → (K → K → Ordering) → K → List (K × X) → Option (K × X)
first_from cmp key es = find (is_from cmp key) es

-- the first entry above a key
abbrev pub first_above : {K X : Type 0} → (K → K → Ordering) → K → List (K × X) → Option (K × X)
first_above cmp key es = find (is_above cmp key) es

-- the keys of the first entries, so many at most, at a key or above it
abbrev pub keys_from : {K X : Type 0} → (K → K → Ordering) → K → ℕ → List (K × X) → List K
keys_from cmp key limit es = map (λ e. e.0) (take limit (filter (is_from cmp key) es))

-- ---- what is made of a map

-- the entries with a value at a key: where the key is there, in the place of its value
abbrev pub put_at : {K X : Type 0} → (K → K → Ordering) → K → X → List (K × X) → List (K × X)
put_at cmp key value es = insert_entry cmp es key value

-- the entries without that of a key
abbrev pub cut_at : {K X : Type 0} → (K → K → Ordering) → K → List (K × X) → List (K × X)
cut_at cmp key es = remove_entry (is_at (cmp key)) es

-- ---- how entries are kept

-- the entry's key is at or below a key
abbrev pub is_upto : {K X : Type 0} → (K → K → Ordering) → K → K × X → Bool
is_upto cmp key e = is_le (cmp e.0 key)

-- the entry's key is below a key
abbrev pub is_below : {K X : Type 0} → (K → K → Ordering) → K → K × X → Bool
is_below cmp key e = is_lt (cmp e.0 key)

-- the entry's key is above a key, or not below it
abbrev pub is_beyond : {K X : Type 0} → (K → K → Ordering) → Bool → K → K × X → Bool
is_beyond cmp past key e = cond past (is_above cmp key e) (is_from cmp key e)

-- the first entry above a key, or not below it
abbrev pub first_beyond : {K X : Type 0} → (K → K → Ordering) → Bool → K → List (K × X) → Option (K × X)
first_beyond cmp past key es = find (is_beyond cmp past key) es

-- a key with what its shared value is
abbrev pub seen_one : {K P : Type 0} → K × Arc P Global → K × P
seen_one e = (e.0, arc_value e.1)

-- keys with what their shared values are
abbrev pub seen : {K P : Type 0} → List (K × Arc P Global) → List (K × P)
seen es = map seen_one es
