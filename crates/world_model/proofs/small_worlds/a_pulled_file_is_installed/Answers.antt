use Rattle.world_model.proofs.Examples.{installs}
use Rattle.world_model.proofs.small_worlds.a_pulled_file_is_installed.Goals as goal

pub returns : goal.returns
returns c = installs
