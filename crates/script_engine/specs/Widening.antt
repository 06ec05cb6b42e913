-- Sets of versions that a member may cover: those of at most 65,536 intervals.
use Rattle.std.specs.Prelude.{◌≡◌, ◌<◌, ◌≤◌, ℕ, List, length}
use Rattle.version_vector.specs.Versions.{IsCanonical, covers}
use Rattle.version_vector.specs.declared.interval.Interval.{Interval}
use Rattle.frs_base.specs.declared.version.Gvsn.{Gvsn}
use Rattle.record_db.specs.Records.{Versions}

-- the one sorted list of intervals that covers just this set
pub record IsVectorOf (set : Versions) (vector : List Interval) : Type 0 where
  pub canonical : IsCanonical vector
  pub covering : (g : Gvsn) → covers vector g ≡ set g

-- its vector has at most 65,536 intervals
abbrev pub Fits : Versions → Type 0
Fits set = (vector : List Interval) × IsVectorOf set vector × (length vector ≤ 65536)

-- its vector has so many, which are more
abbrev pub Exceeds : Versions → ℕ → Type 0
Exceeds set count = (vector : List Interval) × IsVectorOf set vector × (length vector ≡ count) × (65536 < count)
