use Rattle.world_model.proofs.Examples.{parent_cycle_is}
use Rattle.world_model.proofs.small_worlds.a_cycle_of_parents_is_hidden.Goals as goal

pub returns : goal.returns
returns c = parent_cycle_is
