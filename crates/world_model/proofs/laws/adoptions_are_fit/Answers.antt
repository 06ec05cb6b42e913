use Rattle.world_model.proofs.Flight.{adoptions_fit}
use Rattle.world_model.proofs.laws.adoptions_are_fit.Goals as goal

pub returns : goal.returns
returns c = adoptions_fit
