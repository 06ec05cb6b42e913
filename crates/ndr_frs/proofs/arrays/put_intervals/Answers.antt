use Rattle.ndr_core.proofs.Loops.{all_true}
use Rattle.ndr_frs.proofs.arrays.put_intervals.Goals as goal

pub put_many-requires : goal.put_many-requires
put_many-requires c = all_true c.args.intervals.now
