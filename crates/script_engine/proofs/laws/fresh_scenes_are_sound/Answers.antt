use Rattle.script_engine.proofs.Scenes.{fresh_scene_sound}
use Rattle.script_engine.proofs.laws.fresh_scenes_are_sound.Goals as goal

pub returns : goal.returns
returns c = fresh_scene_sound
