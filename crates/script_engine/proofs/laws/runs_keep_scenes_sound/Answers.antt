use Rattle.script_engine.proofs.Scenes.{run_keeps}
use Rattle.script_engine.proofs.laws.runs_keep_scenes_sound.Goals as goal

pub returns : goal.returns
returns c = run_keeps
