use Rattle.world_model.proofs.Counting.{all_counted}
use Rattle.world_model.proofs.laws.all_is_counted.Goals as goal

pub returns : goal.returns
returns c = all_counted
