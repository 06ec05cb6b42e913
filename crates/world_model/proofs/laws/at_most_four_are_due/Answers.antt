use Rattle.world_model.proofs.Due.{at_most_four}
use Rattle.world_model.proofs.laws.at_most_four_are_due.Goals as goal

pub returns : goal.returns
returns c = at_most_four
