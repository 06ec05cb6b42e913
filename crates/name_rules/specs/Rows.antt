-- The rows of the tree of records, and their order.
use Rattle.std.specs.Prelude.{◌≡◌, ◌≢◌, ◌++◌, ℕ, true, false, List, [], ◌∷◌, Option, Some, None, if◌then◌else◌, length, slice_get}
use Rattle.std.specs.Cmp.Lexicographic.{slice_cmp}
use Rattle.std.specs.List.{AllByRecursion}
use Rattle.std.specs.declared.cmp.Ordering.{Ordering}
use Rattle.std.specs.Ordering.{is_lt, nat_cmp, on, then_cmp}
use Rattle.frs_base.specs.Options.{In}
use Rattle.frs_base.specs.declared.kind.Kind.{Kind}
use Rattle.frs_base.specs.declared.sum.Sum.{Sum}
use Rattle.win_order.specs.Order.{is_directory}
use Rattle.win_order.specs.declared.update.Update.{Update}
use Rattle.vol_state.specs.Conditions.{root_uid}
use Rattle.vol_state.specs.Sums.{no_sum}
use Rattle.name_rules.specs.declared.rows.TreeRow.{TreeRow}
use Rattle.name_rules.specs.Tree.{IsRow, kind_of}
use Rattle.name_rules.specs.Shown.{Among}

-- ---- the order of depth

-- name by name, and names unit by unit
abbrev pub names_cmp : List (List ℕ) → List (List ℕ) → Ordering
names_cmp = slice_cmp (slice_cmp nat_cmp)

-- the shorter path first, then by the names
abbrev pub depth_cmp : List (List ℕ) → List (List ℕ) → Ordering
depth_cmp = then_cmp (on length nat_cmp) names_cmp

-- no path is before that of an earlier row
abbrev pub AreByDepth : List TreeRow → Type 0
AreByDepth [] = Unit {0}
AreByDepth (row ∷ rows) = ((other : TreeRow) → In other rows → is_lt (depth_cmp other.path row.path) ≡ false) × AreByDepth rows

-- each path is before those of the later rows, so no path is there twice
abbrev pub AreDeepening : List TreeRow → Type 0
AreDeepening [] = Unit {0}
AreDeepening (row ∷ rows) = AllByRecursion (λ other. is_lt (depth_cmp row.path other.path) ≡ true) rows × AreDeepening rows

-- ---- the tree of records

-- none of the records is the root's
abbrev pub HaveNoRoot : List Update → Type 0
HaveNoRoot records = (u : Update) → In u records → u.uid ≢ root_uid

-- the rows of the tree of the records, and no others, in order of depth
pub record AreTreeRows (records : List Update) (rows : List TreeRow) : Type 0 where
  pub ordered : AreDeepening rows
  pub each : (row : TreeRow) → In row rows → IsRow (Among records) row.path row.kind row.hash
  pub whole : (path : List (List ℕ)) (kind : Kind) (sum : Sum) → IsRow (Among records) path kind sum → In (record { path = path; kind = kind; hash = sum }) rows

-- the hash of an update's row, all zero for a directory
abbrev pub row_hash : Update → Sum
row_hash u = if is_directory u then no_sum else u.hash

-- the row of an update at a path
abbrev pub row_at : List (List ℕ) → Update → TreeRow
row_at path u = record { path = path; kind = kind_of u; hash = row_hash u }

-- and in a directory with this path
abbrev pub row_in : List (List ℕ) → Update → TreeRow
row_in above u = row_at (above ++ u.name ∷ []) u

-- the path of a row that may be there
abbrev pub path_of : Option TreeRow → List (List ℕ)
path_of None = []
path_of (Some row) = row.path

-- the path of the directory at a place, where none is the root
abbrev pub path_above : List TreeRow → Option ℕ → List (List ℕ)
path_above rows None = []
path_above rows (Some j) = path_of (slice_get rows j)

-- of each found its row, in the directory that it is in
pub record AreRowsOf (named : List Update) (queue : List ℕ) (above : List (Option ℕ)) (rows : List TreeRow) : Type 0 where
  pub long : length rows ≡ length queue
  pub each : (n k : ℕ) (u : Update) (up : Option ℕ) → slice_get queue n ≡ Some k → slice_get named k ≡ Some u → slice_get above n ≡ Some up → slice_get rows n ≡ Some (row_in (path_above rows up) u)
