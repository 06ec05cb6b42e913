use Rattle.world_model.proofs.Trees.{drained_trees}
use Rattle.world_model.proofs.laws.drained_volumes_are_trees.Goals as goal

pub returns : goal.returns
returns c = drained_trees
