use Rattle.std.proofs.Common.{◌≡◌, ◌≤◌, take, length}
use Rattle.vol_state.specs.Journal.{pending_local}
use Rattle.vol_state.proofs.journal.last_pending.Given as goal

abbrev pub invariant-loop-left : goal.invariant-loop-left
invariant-loop-left l = (pending_local (take l.left l.records) l.uid l.from ≡ pending_local l.records l.uid l.from) × (l.left ≤ length l.records)

abbrev pub decreases-loop-left : goal.decreases-loop-left
decreases-loop-left l = l.left
