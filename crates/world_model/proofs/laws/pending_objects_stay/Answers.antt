use Rattle.world_model.proofs.Steps.{pending_stay}
use Rattle.world_model.proofs.laws.pending_objects_stay.Goals as goal

pub returns : goal.returns
returns c = pending_stay
