-- Functions that are equal at each argument are one.
use Rattle.std.proofs.Common.{◌≡◌, List}
use Rattle.version_vector.specs.declared.interval.Interval.{Interval}
use Rattle.version_vector.specs.Versions.{covers}
use Rattle.vol_state.specs.State.{State}
use Rattle.vol_state.specs.Maps.{Maps, Stands, maps_of}
use Rattle.record_db.specs.Records.{Versions}
use Rattle.record_db.specs.State.{IsVector}

-- what the lists of a volume stand for are their maps
pub maps_are : (v : State) (m : Maps) → Stands v m → m ≡ maps_of v
maps_are v m s = λ i. record { at = λ fid. s.objects fid i; entry = λ usn. s.entries usn i; next_fid = s.next_fid i; next_usn = s.next_usn i }

-- the lists of a volume stand for their maps
pub stands_for_maps : (v : State) → Stands v (maps_of v)
stands_for_maps v = record { objects = λ fid. λ i. (maps_of v).at fid; entries = λ usn. λ i. (maps_of v).entry usn; next_fid = λ i. v.next_fid; next_usn = λ i. v.next_usn }

-- a vector of just these versions covers them
pub covers_are : (vector : List Interval) (known : Versions) → IsVector known vector → covers vector ≡ known
covers_are vector known h = λ i. λ g. h.covering g i
