use Rattle.world_model.proofs.Due.{steps_lower}
use Rattle.world_model.proofs.laws.steps_lower_what_is_due.Goals as goal

pub returns : goal.returns
returns c = steps_lower
