use Rattle.script_engine.proofs.Sorting.{some_tree}
use Rattle.script_engine.proofs.laws.volumes_have_trees.Goals as goal

pub returns : goal.returns
returns c = some_tree
