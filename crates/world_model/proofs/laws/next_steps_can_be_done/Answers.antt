use Rattle.world_model.proofs.Progress.{next_steps}
use Rattle.world_model.proofs.laws.next_steps_can_be_done.Goals as goal

pub returns : goal.returns
returns c = next_steps
