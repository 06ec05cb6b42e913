-- What the journal says.
use Rattle.std.specs.Prelude.{⊤, ◌≡◌, ◌+◌, ◌==◌, ◌&&◌, nat_le, ℕ, Bool, if◌then◌else◌, List, [], ◌∷◌, length, Option, Some, None, filter, find}
use Rattle.frs_base.specs.declared.version.Uid.{Uid}
use Rattle.frs_base.specs.Versions.{same_uid}
use Rattle.vol_state.specs.declared.record.VolRecord.{VolRecord}
use Rattle.vol_state.specs.State.{State}

-- the first record with this USN
abbrev pub record_at : List VolRecord → ℕ → Option VolRecord
record_at journal usn = find (λ r. r.usn == usn) journal

-- a later answer, else this one
abbrev pub later_or : Option ℕ → ℕ → Bool → Option ℕ
later_or (Some later) usn holds = Some later
later_or None usn holds = if holds then Some usn else None

-- the USN of the last local record of a UID
abbrev pub last_local : List VolRecord → Uid → Option ℕ
last_local [] uid = None
last_local (r ∷ rs) uid = later_or (last_local rs uid) r.usn (r.local && same_uid r.uid uid)

-- the USN of the last local record of a UID, among those at or past a USN
abbrev pub pending_local : List VolRecord → Uid → ℕ → Option ℕ
pending_local journal uid from = last_local (filter (λ r. nat_le from r.usn) journal) uid

-- the USNs are usn, usn + 1 and so on
abbrev pub RunsFrom : ℕ → List VolRecord → Type 0
RunsFrom usn [] = ⊤
RunsFrom usn (r ∷ rs) = (r.usn ≡ usn) × RunsFrom (usn + 1) rs

-- USNs run from 9 without a gap up to the next one
pub record IsNumbered (v : State) : Type 0 where
  pub run : RunsFrom 9 v.journal
  pub next : v.next_usn ≡ 9 + length v.journal
