-- What a table keeps, and how contracts see it.
use Rattle.std.specs.Prelude.{◌<◌, ◌≤◌, ℕ, List, [], Option, Some, None, MatchOption, length, refl, vec_capacity}
use Rattle.std.specs.Coded.{Coded, code_by, coded×, coded_list, coded_ℕ}
use Rattle.std.specs.declared.cmp.Ordering.{Ordering}
use Rattle.frs_pmap.specs.Nodes.{AreGiven, AreSpare, IsTable, RootOf, entries_under}
use Rattle.frs_pmap.specs.declared.whole.Spares.{Spares}

-- entries in order of their keys, and how many values may be put without memory
pub record Stocked (K V : Type 0) : Type 0 where
  pub entries : List (K × V)
  pub room : ℕ

-- they are stored as a pair
abbrev pub stocked_code : {K V : Type 0} → Coded K → Coded V → Coded (Stocked K V)
stocked_code {K = K} {V = V} key value = code_by (List (K × V) × ℕ) (coded× (coded_list (coded× key value)) coded_ℕ) (λ s. (s.entries, s.room)) (λ p. record { entries = p.0; room = p.1 }) (λ _. refl)

-- nothing is kept of no entries
abbrev pub kept_in : {K V : Type 0} → Option (RootOf K V) → List (K × V)
kept_in None = []
kept_in (Some whole) = entries_under whole.items.items

-- what is kept is in order
abbrev pub IsKept : {K V : Type 0} → (K → K → Ordering) → Option (RootOf K V) → Type 0
IsKept cmp whole = MatchOption whole (Unit {0}) (IsTable cmp)

-- there is room for a group more
abbrev pub HasPlace : {K V : Type 0} → Option (RootOf K V) → Type 0
HasPlace whole = MatchOption whole ⊥ (λ w. length w.items.items < vec_capacity w.items)

-- a value may be put: there is room for a group, and memory for a part and for a group
abbrev pub IsReady : {K V : Type 0} → Option (RootOf K V) → Spares K V → Type 0
IsReady whole spares = HasPlace whole × AreGiven spares

-- the entries are in order, and where there is room a value may be put
pub record IsStocked {K V : Type 0} (cmp : K → K → Ordering) (whole : Option (RootOf K V)) (spares : Spares K V) (room : ℕ) : Type 0 where
  pub table : IsKept cmp whole
  pub spare : AreSpare spares
  pub one : room ≤ 1
  pub ready : 0 < room → IsReady whole spares
