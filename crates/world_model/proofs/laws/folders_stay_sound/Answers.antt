use Rattle.world_model.proofs.Folder.{folders_stay}
use Rattle.world_model.proofs.laws.folders_stay_sound.Goals as goal

pub returns : goal.returns
returns c = folders_stay
