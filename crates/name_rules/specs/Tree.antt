-- Which records are shown, and the trees of records and of a volume.
use Rattle.std.specs.Prelude.{◌≡◌, ◌⊎◌, ℕ, zero, suc, Bool, true, false, not, ◌&&◌, List, [], ◌∷◌, Some, if◌then◌else◌}
use Rattle.frs_base.specs.Names.{matches}
use Rattle.frs_base.specs.declared.kind.Kind.{Kind}
use Rattle.frs_base.specs.declared.kind.Kind.TheVariants.{File, Directory}
use Rattle.frs_base.specs.declared.sum.Sum.{Sum}
use Rattle.frs_base.specs.declared.version.Uid.{Uid}
use Rattle.win_order.specs.Order.{is_directory, key_lt, key_of}
use Rattle.win_order.specs.declared.update.Update.{Update}
use Rattle.vol_state.specs.declared.object.Object.{Object}
use Rattle.vol_state.specs.Sums.{no_sum}
use Rattle.vol_state.specs.Conditions.{root_uid}
use Rattle.vol_state.specs.Maps.{Maps}
use Rattle.vol_state.specs.Tables.{IsAt}
use Rattle.name_rules.specs.Recorded.{hash_of}

-- what an update is of
abbrev pub kind_of : Update → Kind
kind_of u = if is_directory u then Directory else File

-- a present file
abbrev pub is_file : Update → Bool
is_file u = u.present && not (is_directory u)

-- ---- what is shown of records

-- one of the records, present, and no present one with the same parent and a matching name has a greater key
pub record HasName (Records : Update → Type 0) (u : Update) : Type 0 where
  pub among : Records u
  pub present : u.present ≡ true
  pub greatest : (v : Update) → Records v → v.present ≡ true → v.parent ≡ u.parent → matches v.name u.name ≡ true → key_lt (key_of u) (key_of v) ≡ false

-- shown, with fewer than n directories above it
abbrev pub ShownBy : (Update → Type 0) → ℕ → Update → Type 0
ShownBy Records zero u = ⊥
ShownBy Records (suc n) u = HasName Records u × ((u.parent ≡ root_uid) ⊎ ((p : Update) × (p.uid ≡ u.parent) × (is_directory p ≡ true) × ShownBy Records n p))

-- shown: it has its name, and its parent is the root or a shown directory, so that records on a cycle are hidden
abbrev pub IsShown : (Update → Type 0) → Update → Type 0
IsShown Records u = (n : ℕ) × ShownBy Records n u

-- ---- trees

-- shown at this path beneath a parent
abbrev pub IsUnder : (Update → Type 0) → Uid → List (List ℕ) → Update → Type 0
IsUnder Records parent [] u = ⊥
IsUnder Records parent (name ∷ []) u = IsShown Records u × (u.parent ≡ parent) × (u.name ≡ name)
IsUnder Records parent (name ∷ next ∷ path) u =
    (d : Update) × IsShown Records d × (d.parent ≡ parent) × (d.name ≡ name) × (is_directory d ≡ true) × IsUnder Records d.uid (next ∷ path) u

-- a row of the tree of records: a path from the root, the kind, and the hash, all zero for a directory
abbrev pub IsRow : (Update → Type 0) → List (List ℕ) → Kind → Sum → Type 0
IsRow Records path kind sum = (u : Update) × IsUnder Records root_uid path u × (kind ≡ kind_of u) × (sum ≡ (if is_directory u then no_sum else u.hash))

-- the object stands at this path beneath a directory
abbrev pub StandsAt : Maps → ℕ → List (List ℕ) → Object → Type 0
StandsAt m parent [] o = ⊥
StandsAt m parent (name ∷ []) o = (fid : ℕ) × IsAt m fid o × (o.place ≡ Some (parent, name))
StandsAt m parent (name ∷ next ∷ path) o = (fid : ℕ) × (d : Object) × IsAt m fid d × (d.place ≡ Some (parent, name)) × StandsAt m fid (next ∷ path) o

-- a row of what is reached from the root of a volume: a path, the kind, and the sum
abbrev pub IsVolumeRow : Maps → List (List ℕ) → Kind → Sum → Type 0
IsVolumeRow m path kind sum = (o : Object) × StandsAt m 0 path o × (kind ≡ o.kind) × (sum ≡ hash_of o)
