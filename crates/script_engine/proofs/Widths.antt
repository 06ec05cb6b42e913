-- What a book says of the width of its vector.
use Rattle.std.proofs.Common.{◌≡◌, ◌≤◌, ◌∙◌, ℕ, List, length, subst}
use Rattle.version_vector.specs.Limits.{IsTooLong}
use Rattle.version_vector.specs.Versions.{covers}
use Rattle.version_vector.specs.declared.errors.VectorError.TheVariants as vector
use Rattle.version_vector.specs.declared.interval.Interval.{Interval}
use Rattle.record_db.specs.Records.{Versions}
use Rattle.record_db.specs.State.{IsVector}
use Rattle.record_db.proofs.Sets.{one_set}
use Rattle.script_engine.specs.Widening.{Exceeds, Fits}
use Rattle.script_engine.proofs.Vectors.{HasVector}

-- a set that a vector covers
pub covered_is : (known : Versions) (vector : List Interval) → IsVector known vector → covers vector ≡ known
covered_is known vector is = one_set (covers vector) known is.covering

-- a vector that is short enough
pub fits_by : (set other : Versions) (vector : List Interval) → set ≡ other → IsVector set vector → length vector ≤ 65536 → Fits other
fits_by set other vector e is within = subst Fits e (vector, record { canonical = is.canonical; covering = is.covering }, within)

-- a set whose vector is too long
pub exceeds_by : (set other : Versions) (count : ℕ) → set ≡ other → HasVector other → IsTooLong (vector.VectorFull count) set → Exceeds other count
exceeds_by set other count e has (above, (list, form, alike, long)) = (list, record { canonical = form; covering = λ g. alike g ∙ (λ i. e i g) }, long, above)
