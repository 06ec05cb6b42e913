-- Entries in parts.
use Rattle.std.specs.Prelude.{◌≡◌, List, [], ◌∷◌, Option, Some, None}
use Rattle.std.specs.Arc.{arc_value}
use Rattle.std.specs.declared.sync.Arc.{Arc}
use Rattle.std.specs.declared.alloc.Global.{Global}
use Rattle.std.specs.List.{AllByRecursion, flat_map}
use Rattle.std.specs.declared.cmp.Ordering.{Ordering}
use Rattle.frs_pmap.specs.Entries.{IsRising}

-- the first entry has this key
abbrev pub HasHead : {K X : Type 0} → K → List (K × X) → Type 0
HasHead key [] = ⊥
HasHead key (e ∷ es) = e.0 ≡ key

-- what the parts hold, one part after another
abbrev pub flat : {K X : Type 0} → List (K × List X) → List X
flat parts = flat_map (λ c. c.1) parts

-- each part begins with the key that it stands under
abbrev pub AreHeaded : {K X : Type 0} → List (K × List (K × X)) → Type 0
AreHeaded parts = AllByRecursion (λ c. HasHead c.0 c.1) parts

-- the entries of a root's parts
abbrev pub entries_of : {K V : Type 0} → List (K × List (K × List (K × V))) → List (K × V)
entries_of root = flat_map (λ c. flat c.1) root

-- a row of leaves: each begins with its key
pub record IsBranch {K V : Type 0} (cmp : K → K → Ordering) (parts : List (K × List (K × V))) : Type 0 where
  pub rising : IsRising cmp (flat parts)
  pub headed : AreHeaded parts

-- a row of rows of leaves
pub record IsTree {K V : Type 0} (cmp : K → K → Ordering) (root : List (K × List (K × List (K × V)))) : Type 0 where
  pub rising : IsRising cmp (entries_of root)
  pub headed : AreHeaded root
  pub middles : AllByRecursion (λ c. AreHeaded c.1) root

-- rows that hold what one row held
pub record IsPieces {K P : Type 0} (row : List (K × P)) (parts : List (K × List (K × P))) : Type 0 where
  pub flat : flat parts ≡ row
  pub headed : AreHeaded parts

-- parts that hold what others held
pub record IsJoined {K X : Type 0} (parts joined : List (K × List (K × X))) : Type 0 where
  pub flat : flat joined ≡ flat parts
  pub headed : AreHeaded parts → AreHeaded joined

-- the root's parts: none where there is no root
abbrev pub tree_of : {K V : Type 0} → Option (Arc (List (K × List (K × List (K × V)))) Global) → List (K × List (K × List (K × V)))
tree_of None = []
tree_of (Some root) = arc_value root
