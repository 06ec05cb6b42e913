-- Records as two maps keep them: by file, and by version.
use Rattle.std.specs.Prelude.{◌≡◌, ◌⊎◌, true, false, List, Option, None, Some}
use Rattle.std.specs.List.{AllByRecursion}
use Rattle.std.specs.Map.{values_of}
use Rattle.std.specs.Ordering.{nat_cmp, ordering_then}
use Rattle.std.specs.declared.cmp.Ordering.{Ordering}
use Rattle.frs_base.specs.Options.{In}
use Rattle.frs_base.specs.Versions.{gvsn_lt}
use Rattle.frs_base.specs.declared.version.Gvsn.{Gvsn}
use Rattle.frs_base.specs.declared.version.Uid.{Uid}
use Rattle.frs_pmap.specs.Entries.{IsRising}
use Rattle.win_order.specs.declared.update.Update.{Update}

-- the order of files: by database, then by number
abbrev pub uid_cmp : Uid → Uid → Ordering
uid_cmp a b = ordering_then (nat_cmp a.db b.db) (nat_cmp a.version b.version)

-- the order of versions: by database, then by number
abbrev pub gvsn_cmp : Gvsn → Gvsn → Ordering
gvsn_cmp a b = ordering_then (nat_cmp a.db b.db) (nat_cmp a.version b.version)

-- each update stands under a key of its own
abbrev pub AreUnder : {K : Type 0} → (Update → K) → List (K × Update) → Type 0
AreUnder key_of es = AllByRecursion (λ e. e.0 ≡ key_of e.1) es

-- the same updates stand under their files in one map and under their versions in the other
pub record AreFiled (files : List (Uid × Update)) (versions : List (Gvsn × Update)) : Type 0 where
  pub by_file : AreUnder (λ u. u.uid) files
  pub by_version : AreUnder (λ u. u.gvsn) versions
  pub rising : IsRising gvsn_cmp versions
  pub from : (u : Update) → In u (values_of versions) → In u (values_of files)
  pub whole : (u : Update) → In u (values_of files) → In u (values_of versions)

-- the record with the lowest version that isn't below this one, if there is any
abbrev pub IsFirstFrom : Gvsn → List Update → Option Update → Type 0
IsFirstFrom g records None = (u : Update) → In u records → gvsn_lt u.gvsn g ≡ true
IsFirstFrom g records (Some r) = In r records × (gvsn_lt r.gvsn g ≡ false) × ((u : Update) → In u records → gvsn_lt u.gvsn g ≡ false → (u ≡ r) ⊎ (gvsn_lt r.gvsn u.gvsn ≡ true))
