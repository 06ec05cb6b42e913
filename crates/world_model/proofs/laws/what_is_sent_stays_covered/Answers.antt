use Rattle.world_model.proofs.Headline.{stays_covered}
use Rattle.world_model.proofs.laws.what_is_sent_stays_covered.Goals as goal

pub returns : goal.returns
returns c = stays_covered
