use Rattle.vol_state.proofs.Volumes.{objects_summed}
use Rattle.vol_state.proofs.laws.objects_have_the_sums_of_their_contents.Goals as goal

pub returns : goal.returns
returns c = objects_summed
