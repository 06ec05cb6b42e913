use Rattle.std.proofs.Common.{[], ◌∷◌}
use Rattle.frs_disk.proofs.Moments.{only_still}
use Rattle.frs_disk.proofs.SmallDisks.{synced_may}
use Rattle.frs_disk.proofs.laws.what_is_synced_stays.Goals as goal

pub returns : goal.returns
returns c = λ image. (only_still (1 ∷ 7 ∷ 3 ∷ []) image, synced_may image)
