-- What is true of every volume.
use Rattle.std.specs.Prelude.{◌≡◌, ℕ, true, []}
use Rattle.frs_base.specs.Options.{In}
use Rattle.vol_state.specs.declared.object.Object.{Object}
use Rattle.vol_state.specs.Places.{is_directory}
use Rattle.vol_state.specs.Sums.{content_sum}
use Rattle.vol_state.specs.Tree.{IsTree}
use Rattle.vol_state.specs.State.{IsOneEach, State}
use Rattle.vol_state.specs.Numbers.{greatest_fid, greatest_usn}

-- an object has the sum of its contents, of which a directory has none
pub record IsSummed (o : Object) : Type 0 where
  pub sum : o.sum ≡ content_sum o.kind o.bytes
  pub bare : is_directory o.kind ≡ true → o.bytes ≡ []

-- its objects are a tree, their UIDs differ, and each has the sum of its contents
pub record IsVolume (v : State) : Type 0 where
  pub tree : IsTree v.objects
  pub uids : IsOneEach v.own v.objects
  pub summed : (o : Object) → In o v.objects → IsSummed o

-- a volume, with the greatest fid and the greatest USN that are in use
pub record IsKept (v : State) (top_fid top_usn : ℕ) : Type 0 where
  pub valid : IsVolume v
  pub fid : top_fid ≡ greatest_fid v
  pub usn : top_usn ≡ greatest_usn v
