use Rattle.world_model.proofs.Rounds.{finished_held}
use Rattle.world_model.proofs.laws.finished_rounds_are_held.Goals as goal

pub returns : goal.returns
returns c = finished_held
