-- What every scene keeps that a run reaches.
use Rattle.std.specs.Prelude.{◌≡◌, ◌≢◌, ◌<◌, ◌+◌, ℕ, List, Some, length}
use Rattle.frs_base.specs.Identifiers.{database_of}
use Rattle.frs_base.specs.declared.kind.Kind.TheVariants.{File}
use Rattle.frs_base.specs.declared.kind.MemberKind.{MemberKind}
use Rattle.frs_base.specs.declared.sum.Sum.{Sum}
use Rattle.frs_base.specs.declared.version.Uid.{Uid}
use Rattle.version_vector.specs.declared.interval.Interval.{Interval}
use Rattle.vol_state.specs.State.{State}
use Rattle.vol_state.specs.Sums.{content_sum}
use Rattle.vol_state.specs.Journal.{IsNumbered}
use Rattle.vol_state.specs.Valid.{IsVolume}
use Rattle.vol_state.specs.Laws.{AreFree}
use Rattle.vol_state.specs.Maps.{Maps, Stands}
use Rattle.world_model.specs.World.{Member, World, fresh_member}
use Rattle.world_model.specs.Invariant.{Invariant}
use Rattle.script_engine.specs.Scene.{Scene}
use Rattle.script_engine.specs.Widening.{IsVectorOf}

-- lists of objects and journal records, of a volume of this database, that stand for the maps
pub record AreLists (db : ℕ) (m : Maps) (v : State) : Type 0 where
  pub valid : IsVolume v
  pub free : AreFree v
  pub numbered : IsNumbered v
  pub own : v.own ≡ db
  pub stands : Stands v m

-- the world's invariant; each volume is one of lists, and each vector one of intervals
pub record IsSoundWorld (w : World) : Type 0 where
  pub invariant : Invariant w
  pub volumes : (d : ℕ) → (v : State) × AreLists d (w.at d).volume v
  pub vectors : (d : ℕ) → (vector : List Interval) × IsVectorOf (w.at d).known vector

-- no name has the database
abbrev pub IsNobodys : Scene → ℕ → Type 0
IsNobodys s d = (k : ℕ) → k < length s.names → d ≢ database_of (k + 1)

-- what is staged has the sum that the member says
abbrev pub AreStaged : Member → (Uid → List ℕ) → Type 0
AreStaged x contents = (uid : Uid) (sum : Sum) → x.staged uid ≡ Some sum → content_sum File (contents uid) ≡ sum

-- its world is sound, what is staged has the sums that its members say, and a database without a name is that of a member that has done nothing
pub record IsSoundScene (s : Scene) : Type 0 where
  pub world : IsSoundWorld s.world
  pub staged : (d : ℕ) → AreStaged (s.world.at d) (s.contents d)
  pub unnamed : (d : ℕ) → IsNobodys s d → (kind : MemberKind) × (s.world.at d ≡ fresh_member kind)
