-- What the calls on a disk in memory make of its states.
use Rattle.std.specs.Prelude.{Bool, true, false, List, [], ◌∷◌}
use Rattle.frs_disk.specs.Crashes.{Crash, cut_to, lost, still, synced, wrote}
use Rattle.frs_disk.specs.Moments.{push, seen_now}
use Rattle.frs_disk.specs.declared.trace.Change.{Change}
use Rattle.frs_disk.specs.declared.trace.Change.TheVariants.{Write, Cut, Sync, Restart}

-- the state, or what is left of it where it is lost
abbrev pub lost_if : Bool → Crash → Crash
lost_if true s = lost s
lost_if false s = s

-- a sync, or what is left where it is lost
abbrev pub synced_unless : Bool → Crash → Crash
synced_unless true s = lost s
synced_unless false s = synced s

-- the states after this call
abbrev pub changed : Change → List Crash → List Crash
changed (Write at bytes is_lost) ss = push (λ s. lost_if is_lost (wrote at bytes.now s)) ss
changed (Cut length is_lost) ss = push (λ s. lost_if is_lost (cut_to length s)) ss
changed (Sync is_lost) ss = push (synced_unless is_lost) ss
changed Restart ss = still (seen_now ss) ∷ []
