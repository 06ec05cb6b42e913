-- A volume.
use Rattle.std.specs.Prelude.{◌≡◌, ℕ, List, Option, find, unwrap_or}
use Rattle.frs_base.specs.declared.version.Uid.{Uid}
use Rattle.frs_base.specs.Versions.{same_uid}
use Rattle.vol_state.specs.declared.object.Object.{Object}
use Rattle.vol_state.specs.declared.record.VolRecord.{VolRecord}
use Rattle.frs_base.specs.Options.{In}

-- its own database, its objects in order of their numbers, its journal, and the numbers that come next
pub record State : Type 0 where
  pub own : ℕ
  pub objects : List Object
  pub journal : List VolRecord
  pub next_fid : ℕ
  pub next_usn : ℕ

-- the tag, else the version that made the object
abbrev pub uid_of : ℕ → Object → Uid
uid_of own o = unwrap_or o.tag (record { db = own; version = o.born })

-- the object with this UID
abbrev pub object_of : State → Uid → Option Object
object_of v uid = find (λ o. same_uid (uid_of v.own o) uid) v.objects

-- no two objects have one UID
abbrev pub IsOneEach : ℕ → List Object → Type 0
IsOneEach own objects = (a b : Object) → In a objects → In b objects → uid_of own a ≡ uid_of own b → a ≡ b
