use Rattle.world_model.proofs.Views.{at_most_four_done}
use Rattle.world_model.proofs.laws.at_most_four_are_done.Goals as goal

pub returns : goal.returns
returns c = at_most_four_done
