use Rattle.world_model.proofs.Headline.{cover_stable}
use Rattle.world_model.proofs.laws.cover_is_stable.Goals as goal

pub returns : goal.returns
returns c = cover_stable
