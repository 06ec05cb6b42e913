use Rattle.world_model.proofs.Examples.{tie_is}
use Rattle.world_model.proofs.small_worlds.a_tie_has_one_winner.Goals as goal

pub returns : goal.returns
returns c = tie_is
