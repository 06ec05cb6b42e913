-- What each command does to a volume.
use Rattle.std.specs.Prelude.{◌+◌, ◌==◌, ℕ, Bool, true, false, if◌then◌else◌, List, [], ◌∷◌, ◌++◌, Option, Some, None}
use Rattle.frs_base.specs.declared.kind.Kind.{Kind}
use Rattle.frs_base.specs.declared.kind.Kind.TheVariants.{File, Directory}
use Rattle.frs_base.specs.declared.version.Uid.{Uid}
use Rattle.vol_state.specs.declared.object.Object.{Object}
use Rattle.vol_state.specs.declared.command.VolCmd.{VolCmd}
use Rattle.vol_state.specs.declared.command.VolCmd.TheVariants.{PutNew, PutOver, Mkdir, Move, Remove, Park, Erase, Make, Rewrite, Place}
use Rattle.vol_state.specs.Places.{object_at}
use Rattle.vol_state.specs.State.{State, uid_of}
use Rattle.vol_state.specs.Sums.{content_sum}

-- the object with this number is changed by f
abbrev pub edit : ℕ → (Object → Object) → List Object → List Object
edit fid f [] = []
edit fid f (o ∷ os) = if o.fid == fid then f o ∷ os else o ∷ edit fid f os

-- the object with this number goes
abbrev pub without : ℕ → List Object → List Object
without fid [] = []
without fid (o ∷ os) = if o.fid == fid then os else o ∷ without fid os

-- the journal has one more record, with the next USN
abbrev pub logged : ℕ → Uid → ℕ → Bool → State → State
logged fid uid op local v = record v { journal = v.journal ++ record { usn = v.next_usn; fid = fid; uid = uid; op = op; local = local } ∷ []; next_usn = v.next_usn + 1 }

-- a local change leaves its USN in the object
abbrev pub stamp : Bool → ℕ → Object → Object
stamp local usn o = record o { last_local = if local then usn else o.last_local }

-- the object at another place, or in limbo
abbrev pub at_place : Option (ℕ × List ℕ) → Object → Object
at_place place o = record o { place = place }

-- the object with other contents, and their sum
abbrev pub with_bytes : List ℕ → Object → Object
with_bytes bytes o = record o { bytes = bytes; sum = content_sum o.kind bytes }

-- an object with the next fid, born at the next USN
abbrev pub new_object : State → Option (ℕ × List ℕ) → Kind → List ℕ → Option Uid → Bool → Object
new_object v place kind bytes tag local =
    record { fid = v.next_fid; place = place; kind = kind; bytes = bytes; sum = content_sum kind bytes; born = v.next_usn; tag = tag; last_local = if local then v.next_usn else 0 }

-- an object is added
abbrev pub added : ℕ → Bool → Object → State → State
added op local o v = logged o.fid (uid_of v.own o) op local (record v { objects = v.objects ++ o ∷ []; next_fid = v.next_fid + 1 })

-- the UID of an object that is there
abbrev pub uid_found : ℕ → Option Object → Uid
uid_found own None = record { db = own; version = 0 }
uid_found own (Some o) = uid_of own o

-- the UID of the object with this number
abbrev pub uid_at : State → ℕ → Uid
uid_at v fid = uid_found v.own (object_at v.objects fid)

-- an object is changed
abbrev pub edited : ℕ → Bool → ℕ → (Object → Object) → State → State
edited op local fid f v = logged fid (uid_at v fid) op local (record v { objects = edit fid (λ o. stamp local v.next_usn (f o)) v.objects })

-- an object goes
abbrev pub gone : ℕ → Bool → ℕ → State → State
gone op local fid v = logged fid (uid_at v fid) op local (record v { objects = without fid v.objects })

-- the volume after a command; the number is the kind of operation that the journal keeps, true a local one
abbrev pub effect : VolCmd → State → State
effect (PutNew parent name bytes) v = added 1 true (new_object v (Some (parent, name)) File bytes None true) v
effect (PutOver fid bytes) v = edited 2 true fid (with_bytes bytes) v
effect (Mkdir parent name) v = added 3 true (new_object v (Some (parent, name)) Directory [] None true) v
effect (Move fid parent name) v = edited 4 true fid (at_place (Some (parent, name))) v
effect (Remove fid) v = gone 5 true fid v
effect (Park fid) v = edited 6 false fid (at_place None) v
effect (Erase fid) v = gone 7 false fid v
effect (Make uid kind bytes) v = added 8 false (new_object v None kind bytes (Some uid) false) v
effect (Rewrite fid bytes) v = edited 9 false fid (with_bytes bytes) v
effect (Place fid parent name) v = edited 10 false fid (at_place (Some (parent, name))) v
