use Rattle.vol_state.specs.Hints.{uid_key}
use Rattle.vol_state.proofs.Walks.{IsLooked, has_uid}
use Rattle.vol_state.proofs.lookups.object_by.Given as goal

abbrev pub invariant-loop-at : goal.invariant-loop-at
invariant-loop-at l = IsLooked (has_uid l.own l.uid) l.objects l.links (uid_key l.uid) l.at

abbrev pub decreases-loop-at : goal.decreases-loop-at
decreases-loop-at l = l.at
