use Rattle.vol_state.proofs.Kept.{kept_fresh}
use Rattle.vol_state.proofs.volume.Volume.new.Goals as goal

pub invariant_of-result : goal.invariant_of-result
invariant_of-result c = rw (c.empty.ensures.own, c.empty.ensures.items, c.empty-2.ensures) (kept_fresh c.args.own)
