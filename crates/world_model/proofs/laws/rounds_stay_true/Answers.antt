use Rattle.world_model.proofs.Rounds.{rounds_stay}
use Rattle.world_model.proofs.laws.rounds_stay_true.Goals as goal

pub returns : goal.returns
returns c = rounds_stay
