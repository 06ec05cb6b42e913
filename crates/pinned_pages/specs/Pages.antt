-- Pages of what was pinned.
use Rattle.std.specs.Prelude.{◌≡◌, ◌++◌, ◌⊎◌, true, List, [], ◌∷◌, Option, None, Some}
use Rattle.std.specs.List.{AllByRecursion}
use Rattle.frs_base.specs.Options.{In}
use Rattle.frs_base.specs.Versions.{gvsn_lt}
use Rattle.version_vector.specs.Versions.{inside}
use Rattle.version_vector.specs.declared.interval.Interval.{Interval}
use Rattle.win_order.specs.declared.update.Update.{Update}
use Rattle.record_db.specs.Records.{Versions}

-- in order of their versions, each once
abbrev pub IsByVersion : List Update → Type 0
IsByVersion [] = Unit {0}
IsByVersion (u ∷ us) = AllByRecursion (λ v. gvsn_lt u.gvsn v.gvsn ≡ true) us × IsByVersion us

-- the records whose versions are asked for, in order of their versions
pub record IsPage (asked : Versions) (records page : List Update) : Type 0 where
  pub ordered : IsByVersion page
  pub each : (u : Update) → In u page → In u records × (asked u.gvsn ≡ true)
  pub whole : (u : Update) → In u records → asked u.gvsn ≡ true → In u page

-- the record with the lowest version in the interval, if there is any
abbrev pub IsFirstWithin : Interval → List Update → Option Update → Type 0
IsFirstWithin i records None = (u : Update) → In u records → inside i u.gvsn ≡ true → ⊥
IsFirstWithin i records (Some r) = In r records × (inside i r.gvsn ≡ true) × ((u : Update) → In u records → inside i u.gvsn ≡ true → (u ≡ r) ⊎ (gvsn_lt r.gvsn u.gvsn ≡ true))

-- the page has become longer by the records whose versions are in the interval
abbrev pub IsLonger : Interval → List Update → List Update → List Update → Type 0
IsLonger i records old new = (added : List Update) × (new ≡ old ++ added) × IsPage (inside i) records added
