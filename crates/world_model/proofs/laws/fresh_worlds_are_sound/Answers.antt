use Rattle.world_model.proofs.Fresh.{fresh_sound}
use Rattle.world_model.proofs.laws.fresh_worlds_are_sound.Goals as goal

pub returns : goal.returns
returns c = fresh_sound
