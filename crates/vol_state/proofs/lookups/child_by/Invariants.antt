use Rattle.vol_state.specs.Places.{is_child}
use Rattle.vol_state.specs.Hints.{place_key}
use Rattle.vol_state.proofs.Walks.{IsLooked}
use Rattle.vol_state.proofs.lookups.child_by.Given as goal

abbrev pub invariant-loop-at : goal.invariant-loop-at
invariant-loop-at l = IsLooked (is_child l.parent l.name) l.objects l.links (place_key l.parent l.name) l.at

abbrev pub decreases-loop-at : goal.decreases-loop-at
decreases-loop-at l = l.at
