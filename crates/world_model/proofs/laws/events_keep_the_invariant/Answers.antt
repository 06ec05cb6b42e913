use Rattle.world_model.proofs.Steps.{step_keeps}
use Rattle.world_model.proofs.laws.events_keep_the_invariant.Goals as goal

pub returns : goal.returns
returns c = step_keeps
