use Rattle.world_model.proofs.Views.{views_there}
use Rattle.world_model.proofs.laws.views_are_there.Goals as goal

pub returns : goal.returns
returns c = views_there
