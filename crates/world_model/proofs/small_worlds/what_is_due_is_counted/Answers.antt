use Rattle.world_model.proofs.Examples.{due_rows}
use Rattle.world_model.proofs.small_worlds.what_is_due_is_counted.Goals as goal

pub returns : goal.returns
returns c = due_rows
