-- The update that a journal record makes when it is consumed.
use Rattle.std.specs.Prelude.{◌≡◌, ◌+◌, ◌==◌, ◌||◌, nat_lt, ℕ, max, Bool, true, false, if◌then◌else◌, List, Option, Some, None, find, option_map, replicate, unwrap_or}
use Rattle.frs_base.specs.declared.kind.Kind.{Kind}
use Rattle.frs_base.specs.declared.kind.MemberKind.{MemberKind}
use Rattle.frs_base.specs.declared.kind.MemberKind.TheVariants.{Primary, Plain}
use Rattle.frs_base.specs.declared.kind.Phase.{Phase}
use Rattle.frs_base.specs.declared.kind.Phase.TheVariants.{Initial, Normal}
use Rattle.frs_base.specs.declared.version.Uid.{Uid}
use Rattle.frs_base.specs.declared.sum.Sum.{Sum}
use Rattle.frs_base.specs.Identifiers.{content_set}
use Rattle.frs_base.specs.Versions.{same_uid}
use Rattle.win_order.specs.declared.update.Update.{Update}
use Rattle.vol_state.specs.declared.object.Object.{Object}
use Rattle.vol_state.specs.declared.record.VolRecord.{VolRecord}
use Rattle.vol_state.specs.Places.{is_directory}
use Rattle.vol_state.specs.State.{State, uid_of}
use Rattle.vol_state.specs.Journal.{record_at}
use Rattle.vol_state.specs.Sums.{no_sum}
use Rattle.vol_state.specs.Effects.{uid_found}
use Rattle.vol_state.specs.Conditions.{root_uid}
use Rattle.vol_state.specs.Maps.{Maps, maps_of}

-- ---- fence, clock and create time

-- the least fence: a primary member's first changes win over a plain member's, and later ones over both
abbrev pub base_fence : Phase → MemberKind → ℕ
base_fence Initial Primary = 2
base_fence Initial Plain = 1
base_fence Normal kind = 3

-- no lower than that of the held record
abbrev pub fence_of : ℕ → Option Update → ℕ
fence_of base held = max base (unwrap_or (option_map (λ u. u.fence) held) 0)

-- the moment, but above the clock of the held record
abbrev pub clock_of : ℕ → Option Update → ℕ
clock_of moment None = moment
clock_of moment (Some held) = max moment (held.clock + 1)

-- that of the held record, else the moment
abbrev pub created_of : ℕ → Option Update → ℕ
created_of moment held = unwrap_or (option_map (λ u. u.created) held) moment

-- ---- journal records and objects

-- the kinds of operation that take an object out: 5 is a remove, 7 an erase
abbrev pub is_deletion : VolRecord → Bool
is_deletion r = r.op == 5 || r.op == 7

-- the UID of the directory with this number, in the volume of this database
abbrev pub parent_uid : ℕ → Maps → ℕ → Uid
parent_uid own m fid = if fid == 0 then root_uid else uid_found own (m.at fid)

-- attribute 0x10 for a directory, 0x20 for a file
abbrev pub attributes_of : Kind → ℕ
attributes_of kind = if is_directory kind then 0x10 else 0x20

-- a directory has no hash
abbrev pub hash_of : Object → Sum
hash_of o = if is_directory o.kind then no_sum else o.sum

-- ---- what a record makes

-- the object as it is now
abbrev pub object_update : ℕ → Maps → ℕ → ℕ → ℕ → Option Update → Object → ℕ × List ℕ → Update
object_update own m base usn moment held o place = record {
  present = true;
  name_conflict = false;
  attributes = attributes_of o.kind;
  fence = fence_of base held;
  clock = clock_of moment held;
  created = created_of moment held;
  set = content_set;
  hash = hash_of o;
  similarity = replicate 16 0;
  uid = uid_of own o;
  gvsn = record { db = own; version = usn };
  parent = parent_uid own m place.0;
  name = place.1;
  flags = 0;
}

-- the held record, no longer present
abbrev pub tombstone : ℕ → ℕ → ℕ → ℕ → Update → Update
tombstone own base usn moment held = record held {
  present = false;
  name_conflict = false;
  fence = fence_of base (Some held);
  clock = clock_of moment (Some held);
  created = created_of moment (Some held);
  similarity = replicate 16 0;
  gvsn = record { db = own; version = usn };
  flags = 0;
}

-- a deletion: of a present record that is held
abbrev pub recorded_deletion : ℕ → ℕ → ℕ → ℕ → Option Update → Option Update
recorded_deletion own base usn moment None = None
recorded_deletion own base usn moment (Some held) = if held.present then Some (tombstone own base usn moment held) else None

-- any other operation: of an object that is there, with no later local record
abbrev pub recorded_change : ℕ → Maps → ℕ → ℕ → ℕ → Option Update → Option Object → Option Update
recorded_change own m base usn moment held None = None
recorded_change own m base usn moment held (Some o) = if nat_lt usn o.last_local then None else option_map (object_update own m base usn moment held o) o.place

-- by whether the record is local, and whether it is a deletion
abbrev pub recorded_by : ℕ → Maps → ℕ → ℕ → ℕ → Bool → Bool → Option Update → Option Object → Option Update
recorded_by own m base usn moment false deletion held found = None
recorded_by own m base usn moment true true held found = recorded_deletion own base usn moment held
recorded_by own m base usn moment true false held found = recorded_change own m base usn moment held found

-- what the journal record with a USN makes in the volume of this database, at a moment, over the record of its UID that is held
abbrev pub recorded_of : ℕ → Maps → ℕ → ℕ → ℕ → VolRecord → Option Update → Option Update
recorded_of own m base usn moment r held = recorded_by own m base usn moment r.local (is_deletion r) held (m.at r.fid)

-- ---- over lists

-- the record of a UID among records, which have one of each at most
abbrev pub held_of : List Update → Uid → Option Update
held_of records uid = find (λ u. same_uid u.uid uid) records

-- what the journal record with a USN makes, if there is one
abbrev pub made_of : Option VolRecord → (VolRecord → Option Update) → Option Update
made_of None make = None
made_of (Some r) make = make r

-- the update, or none, that the journal record with this USN makes, for a volume, the records that are held, a moment, the phase and the kind of member
abbrev pub recorded : State → ℕ → List Update → ℕ → Phase → MemberKind → Option Update
recorded v usn records moment phase kind =
    made_of (record_at v.journal usn) (λ r. recorded_of v.own (maps_of v) (base_fence phase kind) usn moment r (held_of records r.uid))

-- ---- laws

-- a made update has the own version with the USN
abbrev pub MakesOwnVersion : Type 0
MakesOwnVersion = (v : State) (usn : ℕ) (records : List Update) (moment : ℕ) (phase : Phase) (kind : MemberKind) (u : Update)
    → recorded v usn records moment phase kind ≡ Some u → u.gvsn ≡ record { db = v.own; version = usn }

-- a replica record makes none
abbrev pub PassesReplicas : Type 0
PassesReplicas = (v : State) (usn : ℕ) (records : List Update) (moment : ℕ) (phase : Phase) (kind : MemberKind) (r : VolRecord)
    → record_at v.journal usn ≡ Some r → r.local ≡ false → recorded v usn records moment phase kind ≡ None
