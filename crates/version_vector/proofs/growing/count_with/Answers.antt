use Rattle.version_vector.proofs.Splices.{length-inserted}
use Rattle.version_vector.proofs.growing.count_with.Goals as goal

pub returns : goal.returns
returns c =
    let at = c.touched-from.ensures in
    length-inserted c.args.new.now c.args.intervals.now c.touched-from.result.0 c.touched-from.result.1 c.requires.full c.requires.canonical at.first at.last at.ordered at.within
