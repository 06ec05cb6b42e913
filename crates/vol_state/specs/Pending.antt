-- Local records at or past a USN, over the maps of a volume.
use Rattle.std.specs.Prelude.{◌≡◌, ◌≤◌, ℕ, true, Option, Some, None}
use Rattle.frs_base.specs.declared.version.Uid.{Uid}
use Rattle.vol_state.specs.declared.record.VolRecord.{VolRecord}
use Rattle.vol_state.specs.State.{State}
use Rattle.vol_state.specs.Journal.{IsNumbered, pending_local}
use Rattle.vol_state.specs.Maps.{Maps, Stands}

-- the record with this USN is a local one of the UID, at or past from
abbrev pub IsPending : Maps → Uid → ℕ → ℕ → Type 0
IsPending m uid from usn = (r : VolRecord) × (m.entry usn ≡ Some r) × (from ≤ usn) × (r.local ≡ true) × (r.uid ≡ uid)

-- the last of them, or that there is none
abbrev pub IsLastPending : Maps → Uid → ℕ → Option ℕ → Type 0
IsLastPending m uid from None = (usn : ℕ) → IsPending m uid from usn → ⊥
IsLastPending m uid from (Some last) = IsPending m uid from last × ((usn : ℕ) → IsPending m uid from usn → usn ≤ last)

-- where USNs run from 9 without a gap, what the journal answers is the last of them over the maps
abbrev pub PendingIsLast : Type 0
PendingIsLast = (v : State) (m : Maps) (uid : Uid) (from : ℕ) → IsNumbered v → Stands v m → IsLastPending m uid from (pending_local v.journal uid from)
