-- Nodes of a table, and what they hold.
use Rattle.std.specs.Prelude.{◌≡◌, ◌<◌, ◌≤◌, List, [], IsSome, Option, None, MatchOption, Vec, length, map, vec_capacity}
use Rattle.std.specs.List.{AllByRecursion, flat_map}
use Rattle.std.specs.Arc.{arc_value}
use Rattle.std.specs.declared.alloc.Global.{Global}
use Rattle.std.specs.declared.cmp.Ordering.{Ordering}
use Rattle.std.specs.declared.sync.Arc.{Arc}
use Rattle.frs_pmap.specs.Entries.{IsRising, seen}
use Rattle.frs_pmap.specs.Trees.{HasHead}
use Rattle.frs_pmap.specs.declared.node.Node.{Node}
use Rattle.frs_pmap.specs.declared.whole.Spares.{Spares}

-- ---- any node

-- what nodes hold, one after another
abbrev pub held_by : {K T S : Type 0} → List (K × Node K T S) → List (K × T)
held_by cs = flat_map (λ c. c.1.items.items) cs

-- there is room for an item more
pub record HasRoom {K T S : Type 0} (node : Node K T S) : Type 0 where
  pub less : length node.items.items < 64
  pub capacity : 64 ≤ vec_capacity node.items

-- a node that was changed: it stands under its first key, has room, and no shared row is kept of it
pub record IsFresh {K T S : Type 0} (c : K × Node K T S) : Type 0 where
  pub head : HasHead c.0 c.1.items.items
  pub room : HasRoom c.1
  pub forgot : c.1.shared ≡ None

-- spare memory, if there is any, is empty and has room for a whole node
abbrev pub IsSpare : {X : Type 0} → Option (Vec X Global) → Type 0
IsSpare spare = MatchOption spare (Unit {0}) (λ v. (v.items ≡ []) × (64 ≤ vec_capacity v))

-- the shared row that is kept, if one is, holds just these
abbrev pub Remembers : {X : Type 0} → Option (Arc X Global) → X → Type 0
Remembers shared x = MatchOption shared (Unit {0}) (λ row. arc_value row ≡ x)

-- ---- nodes of entries

-- entries with shared values
abbrev pub PartOf : Type 0 → Type 0 → Type 0
PartOf K V = Node K (Arc V Global) (List (K × V))

-- the entries of a part
abbrev pub in_part : {K V : Type 0} → PartOf K V → List (K × V)
in_part part = seen part.items.items

-- the entries of parts
abbrev pub entries_in : {K V : Type 0} → List (K × PartOf K V) → List (K × V)
entries_in cs = flat_map (λ c. seen c.1.items.items) cs

-- rows of the same entries
abbrev pub part_rows : {K V : Type 0} → List (K × PartOf K V) → List (K × List (K × V))
part_rows cs = map (λ c. (c.0, seen c.1.items.items)) cs

-- a part has room, and a shared row that is kept of it has its entries
pub record IsPart {K V : Type 0} (part : PartOf K V) : Type 0 where
  pub room : HasRoom part
  pub remembered : Remembers part.shared (seen part.items.items)

-- parts, each under its first key
abbrev pub AreParts : {K V : Type 0} → List (K × PartOf K V) → Type 0
AreParts cs = AllByRecursion (λ c. HasHead c.0 (seen c.1.items.items) × IsPart c.1) cs

-- ---- nodes of parts

-- parts in a node
abbrev pub GroupOf : Type 0 → Type 0 → Type 0
GroupOf K V = Node K (PartOf K V) (List (K × List (K × V)))

-- the entries of a group
abbrev pub in_group : {K V : Type 0} → GroupOf K V → List (K × V)
in_group group = entries_in group.items.items

-- the entries of groups
abbrev pub entries_under : {K V : Type 0} → List (K × GroupOf K V) → List (K × V)
entries_under gs = flat_map (λ g. entries_in g.1.items.items) gs

-- rows of the same entries
abbrev pub group_rows : {K V : Type 0} → List (K × GroupOf K V) → List (K × List (K × List (K × V)))
group_rows gs = map (λ g. (g.0, part_rows g.1.items.items)) gs

-- a group has room, and a shared row that is kept of it has its parts' entries
pub record IsGroup {K V : Type 0} (group : GroupOf K V) : Type 0 where
  pub parts : AreParts group.items.items
  pub room : HasRoom group
  pub remembered : Remembers group.shared (part_rows group.items.items)

-- groups, each under its first key
abbrev pub AreGroups : {K V : Type 0} → List (K × GroupOf K V) → Type 0
AreGroups gs = AllByRecursion (λ g. HasHead g.0 (entries_in g.1.items.items) × IsGroup g.1) gs

-- ---- the whole

-- groups in a node
abbrev pub RootOf : Type 0 → Type 0 → Type 0
RootOf K V = Node K (GroupOf K V) (List (K × List (K × List (K × V))))

-- the entries of the whole
abbrev pub in_whole : {K V : Type 0} → RootOf K V → List (K × V)
in_whole whole = entries_under whole.items.items

-- the entries rise through groups, and a shared row that is kept of the whole has them
pub record IsTable {K V : Type 0} (cmp : K → K → Ordering) (root : RootOf K V) : Type 0 where
  pub rising : IsRising cmp (entries_under root.items.items)
  pub groups : AreGroups root.items.items
  pub remembered : Remembers root.shared (group_rows root.items.items)

-- memory for a part and for a group is there
abbrev pub AreGiven : {K V : Type 0} → Spares K V → Type 0
AreGiven spares = IsSome spares.part × IsSome spares.group

-- what there is of it is empty and has room for a whole node
abbrev pub AreSpare : {K V : Type 0} → Spares K V → Type 0
AreSpare spares = IsSpare spares.part × IsSpare spares.group
