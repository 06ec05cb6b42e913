use Rattle.script_engine.proofs.Sorting.{one_tree}
use Rattle.script_engine.proofs.laws.trees_are_one.Goals as goal

pub returns : goal.returns
returns c = one_tree
