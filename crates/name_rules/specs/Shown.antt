-- What the lists of those that have names, and of those that are shown, are.
use Rattle.std.specs.Prelude.{◌≡◌, ◌⊎◌, ◌≤◌, ◌<◌, ◌+◌, ◌++◌, ◌&&◌, ℕ, suc, Bool, true, false, List, [], ◌∷◌, Option, Some, None, if◌then◌else◌, length, map, replicate, slice_get}
use Rattle.std.specs.Cmp.Lexicographic.{slice_cmp}
use Rattle.std.specs.List.{AllByRecursion, slice_set}
use Rattle.std.specs.declared.cmp.Ordering.{Ordering}
use Rattle.std.specs.Ordering.{is_lt, nat_cmp, on, then_cmp}
use Rattle.frs_base.specs.Names.{fold_unit, matches}
use Rattle.frs_base.specs.Options.{In}
use Rattle.frs_base.specs.Versions.{same_uid, uid_lt}
use Rattle.frs_base.specs.declared.version.Gvsn.{Gvsn}
use Rattle.frs_base.specs.declared.version.Uid.{Uid}
use Rattle.win_order.specs.Order.{is_directory, key_of}
use Rattle.win_order.specs.declared.key.Key.{Key}
use Rattle.win_order.specs.declared.update.Update.{Update}
use Rattle.vol_state.specs.Conditions.{root_uid}
use Rattle.name_rules.specs.Tree.{HasName, IsShown}

-- these and no others
abbrev pub Among : List Update → Update → Type 0
Among records u = In u records

-- records of one file are one, and records of one version are one
pub record AreDistinct (records : List Update) : Type 0 where
  pub files : (u v : Update) → In u records → In v records → u.uid ≡ v.uid → u ≡ v
  pub versions : (u v : Update) → In u records → In v records → u.gvsn ≡ v.gvsn → u ≡ v

-- ---- the order of places

-- by database, then version
abbrev pub uid_cmp : Uid → Uid → Ordering
uid_cmp = then_cmp (on (λ u. u.db) nat_cmp) (on (λ u. u.version) nat_cmp)

abbrev pub gvsn_cmp : Gvsn → Gvsn → Ordering
gvsn_cmp = then_cmp (on (λ g. g.db) nat_cmp) (on (λ g. g.version) nat_cmp)

-- the units of a name, folded
abbrev pub folded : Update → List ℕ
folded u = map fold_unit u.name

-- by parent, then by folded name
abbrev pub place_cmp : Update → Update → Ordering
place_cmp = then_cmp (on (λ u. u.parent) uid_cmp) (on folded (slice_cmp nat_cmp))

-- by fence, clock, create time, version
abbrev pub key_cmp : Key → Key → Ordering
key_cmp = then_cmp (on (λ k. k.fence) nat_cmp) (then_cmp (on (λ k. k.clock) nat_cmp) (then_cmp (on (λ k. k.created) nat_cmp) (on (λ k. k.gvsn) gvsn_cmp)))

-- by place, then by key
abbrev pub rank_cmp : Update → Update → Ordering
rank_cmp = then_cmp place_cmp (on key_of key_cmp)

-- ---- those that have their names

-- they want the same place: of one directory, with names that match
abbrev pub same_place : Update → Update → Bool
same_place u v = same_uid u.parent v.parent && matches u.name v.name

-- none is lower than one before it
abbrev pub AreRising : List Update → Type 0
AreRising [] = Unit {0}
AreRising (u ∷ us) = ((v : Update) → In v us → is_lt (rank_cmp v u) ≡ false) × AreRising us

-- the present records, in order of place and key
pub record IsRanked (records ranked : List Update) : Type 0 where
  pub ordered : AreRising ranked
  pub each : (u : Update) → In u ranked → In u records × (u.present ≡ true)
  pub whole : (u : Update) → In u records → u.present ≡ true → In u ranked

-- the last of each place
abbrev pub last_of_places : List Update → List Update
last_of_places [] = []
last_of_places (u ∷ []) = u ∷ []
last_of_places (u ∷ v ∷ us) = if same_place u v then last_of_places (v ∷ us) else u ∷ last_of_places (v ∷ us)

-- in order of their places, no two of one
abbrev pub AreByPlace : List Update → Type 0
AreByPlace [] = Unit {0}
AreByPlace (u ∷ us) = AllByRecursion (λ v. is_lt (place_cmp u v) ≡ true) us × AreByPlace us

-- those of the records that have their names, in order of their places
pub record AreNamed (records named : List Update) : Type 0 where
  pub ordered : AreByPlace named
  pub each : (u : Update) → In u named → HasName (Among records) u
  pub whole : (u : Update) → HasName (Among records) u → In u named

-- ---- those that are shown

-- those from the first place up to the last one are in this directory, and no others
pub record AreChildren (named : List Update) (parent : Uid) (first last : ℕ) : Type 0 where
  pub within : last ≤ length named
  pub each : (k : ℕ) (u : Update) → first ≤ k → k < last → slice_get named k ≡ Some u → u.parent ≡ parent
  pub whole : (k : ℕ) (u : Update) → slice_get named k ≡ Some u → u.parent ≡ parent → (first ≤ k) × (k < last)

-- how many flags are down
abbrev pub down : List Bool → ℕ
down [] = 0
down (flag ∷ flags) = if flag then down flags else suc (down flags)

-- no place is there twice
abbrev pub AreApart : List ℕ → Type 0
AreApart [] = Unit {0}
AreApart (k ∷ ks) = (In k ks → ⊥) × AreApart ks

-- a flag for each of so many, and the places of those whose flags are up, each once
pub record AreFlagged (count : ℕ) (flags : List Bool) (queue : List ℕ) : Type 0 where
  pub long : length flags ≡ count
  pub within : (k : ℕ) → In k queue → k < count
  pub up : (k : ℕ) → In k queue → slice_get flags k ≡ Some true
  pub whole : (k : ℕ) → slice_get flags k ≡ Some true → In k queue
  pub apart : AreApart queue
  pub left : down flags + length queue ≡ count

-- one is found, if it wasn't found before
abbrev pub Finds : ℕ → List Bool → List ℕ → List Bool → List ℕ → Type 0
Finds k flags queue flags' queue' =
    ((slice_get flags k ≡ Some true) × (flags' ≡ flags) × (queue' ≡ queue))
    ⊎ ((slice_get flags k ≡ Some false) × (flags' ≡ slice_set flags k true) × (queue' ≡ queue ++ k ∷ []))

-- the flag of each in this directory is up
abbrev pub HasChildren : List Update → Uid → List Bool → Type 0
HasChildren named parent flags = (k : ℕ) (u : Update) → slice_get named k ≡ Some u → u.parent ≡ parent → slice_get flags k ≡ Some true

-- more was found, and each of it is in this directory
pub record Reaches (named : List Update) (parent : Uid) (flags : List Bool) (queue : List ℕ) (flags' : List Bool) (queue' : List ℕ) : Type 0 where
  pub added : List ℕ
  pub behind : queue' ≡ queue ++ added
  pub each : (k : ℕ) (u : Update) → In k added → slice_get named k ≡ Some u → u.parent ≡ parent
  pub stay : (k : ℕ) → slice_get flags k ≡ Some true → slice_get flags' k ≡ Some true

-- as many were found in one directory as got its place
pub record HangsMore (up : Option ℕ) (queue : List ℕ) (above : List (Option ℕ)) (queue' : List ℕ) (above' : List (Option ℕ)) : Type 0 where
  pub count : ℕ
  pub longer : length queue' ≡ length queue + count
  pub behind : above' ≡ above ++ replicate count up

-- no place stands for the root; a place before the n-th of the queue stands for the directory that was found there
abbrev pub StandsFor : List Update → List ℕ → ℕ → Option ℕ → Uid → Type 0
StandsFor named queue n None parent = parent ≡ root_uid
StandsFor named queue n (Some j) parent =
    (k : ℕ) × (d : Update) × (j < n) × (slice_get queue j ≡ Some k) × (slice_get named k ≡ Some d) × (is_directory d ≡ true) × (d.uid ≡ parent)

-- of each found the place of the directory that it is in
pub record AreHung (named : List Update) (queue : List ℕ) (above : List (Option ℕ)) : Type 0 where
  pub long : length above ≡ length queue
  pub each : (n k : ℕ) (u : Update) (up : Option ℕ) → slice_get queue n ≡ Some k → slice_get named k ≡ Some u → slice_get above n ≡ Some up → StandsFor named queue n up u.parent

-- those found are those in the root, and those in a directory that was found
pub record Descends (named : List Update) (flags : List Bool) (queue : List ℕ) (above : List (Option ℕ)) : Type 0 where
  pub flagged : AreFlagged (length named) flags queue
  pub roots : HasChildren named root_uid flags
  pub below : (k : ℕ) (u : Update) → In k queue → slice_get named k ≡ Some u → is_directory u ≡ true → HasChildren named u.uid flags
  pub shown : (records : List Update) → ((u : Update) → In u named → HasName (Among records) u) → (k : ℕ) (u : Update) → In k queue → slice_get named k ≡ Some u → IsShown (Among records) u
  pub hung : AreHung named queue above

-- in order
abbrev pub AreByUid : List Uid → Type 0
AreByUid [] = Unit {0}
AreByUid (uid ∷ uids) = AllByRecursion (λ v. uid_lt uid v ≡ true) uids × AreByUid uids

-- the files and directories whose records are shown, in order
pub record AreShown (records : List Update) (uids : List Uid) : Type 0 where
  pub ordered : AreByUid uids
  pub each : (uid : Uid) → In uid uids → (u : Update) × IsShown (Among records) u × (u.uid ≡ uid)
  pub whole : (u : Update) → IsShown (Among records) u → In u.uid uids
