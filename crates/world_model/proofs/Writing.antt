-- Each command as one write of an object, of the kind that its condition names.
use Rattle.std.proofs.Common.{◌≡◌, ◌+◌, ℕ, Bool, List, max, ap, Option, Some, None}
use Rattle.std.specs.Prelude.{option_map}
use Rattle.frs_base.specs.declared.kind.Kind.{Kind}
use Rattle.frs_base.specs.declared.version.Uid.{Uid}
use Rattle.vol_state.specs.declared.object.Object.{Object}
use Rattle.vol_state.specs.declared.record.VolRecord.{VolRecord}
use Rattle.vol_state.specs.Sums.{content_sum}
use Rattle.vol_state.specs.Effects.{stamp, uid_found}
use Rattle.vol_state.specs.Maps.{Maps, changes, loses, with_at, written}
use Rattle.vol_state.specs.State.{uid_of}
use Rattle.vol_state.specs.Tables.{IsAt}

-- one object is written or goes, and this journal record is appended
abbrev pub wrote : Maps → ℕ → Option Object → VolRecord → Maps
wrote m fid o r = record m {
  at = with_at m.at fid o;
  entry = with_at m.entry m.next_usn (Some r);
  next_fid = max m.next_fid (fid + 1);
  next_usn = m.next_usn + 1;
}

-- the journal record of the next USN
abbrev pub logs : Maps → ℕ → Uid → ℕ → Bool → VolRecord
logs m fid uid op local = record { usn = m.next_usn; fid = fid; uid = uid; op = op; local = local }

-- an object that an operation makes
abbrev pub made_object : Maps → Bool → Option (ℕ × List ℕ) → Kind → List ℕ → Option Uid → ℕ → Object
made_object m local place kind bytes tag last =
    record { fid = m.next_fid; place = place; kind = kind; bytes = bytes; sum = content_sum kind bytes; born = m.next_usn; tag = tag; last_local = last }

-- a change of an object that is there
pub changes_is : (own op : ℕ) (local : Bool) (fid : ℕ) (f : Object → Object) (m : Maps) (o : Object) → IsAt m fid o
    → changes own op local fid f m ≡ wrote m fid (Some (stamp local m.next_usn (f o))) (logs m fid (uid_of own o) op local)
changes_is own op local fid f m o at = ap (λ x. written m fid (option_map (λ y. stamp local m.next_usn (f y)) x) (uid_found own x) op local) at

-- an object that is there goes
pub loses_is : (own op : ℕ) (local : Bool) (fid : ℕ) (m : Maps) (o : Object) → IsAt m fid o
    → loses own op local fid m ≡ wrote m fid None (logs m fid (uid_of own o) op local)
loses_is own op local fid m o at = ap (λ x. written m fid None (uid_found own x) op local) at
