use Rattle.world_model.proofs.Lives.{members_stop}
use Rattle.world_model.proofs.laws.members_stop_and_start.Goals as goal

pub returns : goal.returns
returns c = members_stop
