use Rattle.world_model.proofs.Folder.{folders_begin}
use Rattle.world_model.proofs.laws.folders_begin_sound.Goals as goal

pub returns : goal.returns
returns c = folders_begin
