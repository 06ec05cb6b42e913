use Rattle.script_engine.proofs.Scenes.{line_keeps}
use Rattle.script_engine.proofs.laws.lines_keep_scenes_sound.Goals as goal

pub returns : goal.returns
returns c = line_keeps
