use Rattle.script_engine.proofs.Halting.{begins_keep}
use Rattle.script_engine.proofs.laws.beginnings_keep_scenes_sound.Goals as goal

pub returns : goal.returns
returns c = begins_keep
