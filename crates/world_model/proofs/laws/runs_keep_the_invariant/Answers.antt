use Rattle.world_model.proofs.Steps.{runs_keep}
use Rattle.world_model.proofs.laws.runs_keep_the_invariant.Goals as goal

pub returns : goal.returns
returns c = runs_keep
