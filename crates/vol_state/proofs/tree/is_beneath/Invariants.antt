use Rattle.std.proofs.Common.{◌≡◌, ◌-◌, length}
use Rattle.vol_state.specs.Places.{is_under}
use Rattle.vol_state.proofs.tree.is_beneath.Given as goal

abbrev pub invariant-loop-step : goal.invariant-loop-step
invariant-loop-step l = is_under l.shelf.items (length l.shelf.items - l._step) l.top l.at ≡ is_under l.shelf.items (length l.shelf.items) l.top l.fid
