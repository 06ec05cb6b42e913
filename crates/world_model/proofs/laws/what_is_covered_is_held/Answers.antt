use Rattle.world_model.proofs.Headline.{each_covered_is_held}
use Rattle.world_model.proofs.laws.what_is_covered_is_held.Goals as goal

pub returns : goal.returns
returns c = each_covered_is_held
