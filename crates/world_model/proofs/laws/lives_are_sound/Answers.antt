use Rattle.world_model.proofs.Lives.{first_lives_kept, lives_sound_where}
use Rattle.world_model.proofs.Steps.{step_keeps}
use Rattle.world_model.proofs.laws.lives_are_sound.Goals as goal

pub returns-clause-first : goal.returns-clause-first
returns-clause-first c = first_lives_kept

pub returns-clause-sound : goal.returns-clause-sound
returns-clause-sound c = lives_sound_where step_keeps
