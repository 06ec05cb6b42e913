use Rattle.world_model.proofs.Trees.{equal_trees}
use Rattle.world_model.proofs.laws.equal_vectors_have_equal_trees.Goals as goal

pub returns : goal.returns
returns c = equal_trees
