use Rattle.world_model.proofs.Examples.{superseded_is}
use Rattle.world_model.proofs.small_worlds.superseded_is_adopted_and_finished.Goals as goal

pub returns : goal.returns
returns c = superseded_is
