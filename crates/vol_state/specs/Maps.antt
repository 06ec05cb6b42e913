-- A volume as two finite maps, and what each command makes of them: the form in which laws speak of volumes.
use Rattle.std.specs.Prelude.{◌≡◌, ◌+◌, ◌==◌, ℕ, max, Bool, true, false, if◌then◌else◌, List, [], Option, Some, None, option_map}
use Rattle.frs_base.specs.declared.kind.Kind.{Kind}
use Rattle.frs_base.specs.declared.kind.Kind.TheVariants.{File, Directory}
use Rattle.frs_base.specs.declared.version.Uid.{Uid}
use Rattle.vol_state.specs.declared.object.Object.{Object}
use Rattle.vol_state.specs.declared.record.VolRecord.{VolRecord}
use Rattle.vol_state.specs.declared.command.VolCmd.{VolCmd}
use Rattle.vol_state.specs.declared.command.VolCmd.TheVariants.{PutNew, PutOver, Mkdir, Move, Remove, Park, Erase, Make, Rewrite, Place}
use Rattle.vol_state.specs.Places.{object_at}
use Rattle.vol_state.specs.State.{State, uid_of}
use Rattle.vol_state.specs.Journal.{record_at}
use Rattle.vol_state.specs.Sums.{content_sum}
use Rattle.vol_state.specs.Effects.{at_place, stamp, uid_found, with_bytes, effect}
use Rattle.vol_state.specs.Conditions.{is_allowed}
use Rattle.vol_state.specs.Valid.{IsVolume}
use Rattle.vol_state.specs.Laws.{AreFree}
use Rattle.vol_state.specs.Seen.{fresh_state}

-- the map with another value at one place
abbrev pub with_at : {X : Type 0} → (ℕ → X) → ℕ → X → ℕ → X
with_at f k x j = if j == k then x else f j

-- objects by number, journal records by USN, and the numbers that come next
pub record Maps : Type 0 where
  pub at : ℕ → Option Object
  pub entry : ℕ → Option VolRecord
  pub next_fid : ℕ
  pub next_usn : ℕ

-- one object is written or goes, and one journal record is appended
abbrev pub written : Maps → ℕ → Option Object → Uid → ℕ → Bool → Maps
written m fid o uid op local = record m {
  at = with_at m.at fid o;
  entry = with_at m.entry m.next_usn (Some (record { usn = m.next_usn; fid = fid; uid = uid; op = op; local = local }));
  next_fid = max m.next_fid (fid + 1);
  next_usn = m.next_usn + 1;
}

-- an object is made, with the next number, in the volume of this database
abbrev pub makes : ℕ → ℕ → Bool → Option (ℕ × List ℕ) → Kind → List ℕ → Option Uid → Maps → Maps
makes own op local place kind bytes tag m =
    let o : Object = record { fid = m.next_fid; place = place; kind = kind; bytes = bytes; sum = content_sum kind bytes; born = m.next_usn; tag = tag; last_local = if local then m.next_usn else 0 } in
    written m m.next_fid (Some o) (uid_of own o) op local

-- an object is changed by f
abbrev pub changes : ℕ → ℕ → Bool → ℕ → (Object → Object) → Maps → Maps
changes own op local fid f m = written m fid (option_map (λ o. stamp local m.next_usn (f o)) (m.at fid)) (uid_found own (m.at fid)) op local

-- an object goes
abbrev pub loses : ℕ → ℕ → Bool → ℕ → Maps → Maps
loses own op local fid m = written m fid None (uid_found own (m.at fid)) op local

-- each command is one write in the volume of this database
abbrev pub write : ℕ → VolCmd → Maps → Maps
write own (PutNew parent name bytes) m = makes own 1 true (Some (parent, name)) File bytes None m
write own (PutOver fid bytes) m = changes own 2 true fid (with_bytes bytes) m
write own (Mkdir parent name) m = makes own 3 true (Some (parent, name)) Directory [] None m
write own (Move fid parent name) m = changes own 4 true fid (at_place (Some (parent, name))) m
write own (Remove fid) m = loses own 5 true fid m
write own (Park fid) m = changes own 6 false fid (at_place None) m
write own (Erase fid) m = loses own 7 false fid m
write own (Make uid kind bytes) m = makes own 8 false None kind bytes (Some uid) m
write own (Rewrite fid bytes) m = changes own 9 false fid (with_bytes bytes) m
write own (Place fid parent name) m = changes own 10 false fid (at_place (Some (parent, name))) m

-- lists stand for maps: the same objects and records are found
pub record Stands (v : State) (m : Maps) : Type 0 where
  pub objects : (fid : ℕ) → m.at fid ≡ object_at v.objects fid
  pub entries : (usn : ℕ) → m.entry usn ≡ record_at v.journal usn
  pub next_fid : m.next_fid ≡ v.next_fid
  pub next_usn : m.next_usn ≡ v.next_usn

-- the maps that lists stand for
abbrev pub maps_of : State → Maps
maps_of v = record { at = object_at v.objects; entry = record_at v.journal; next_fid = v.next_fid; next_usn = v.next_usn }

-- lists that stand for maps go on to, by each command whose condition holds
abbrev pub StandsOn : Type 0
StandsOn = (cmd : VolCmd) (v : State) (m : Maps) → IsVolume v → AreFree v → is_allowed cmd v ≡ true → Stands v m → Stands (effect cmd v) (write v.own cmd m)

-- a volume with nothing in it
abbrev pub fresh_maps : Maps
fresh_maps = record { at = λ fid. None; entry = λ usn. None; next_fid = 1; next_usn = 9 }

-- fresh lists stand for fresh maps
abbrev pub BeginsStanding : Type 0
BeginsStanding = (own : ℕ) → Stands (fresh_state own) fresh_maps
