use Rattle.frs_disk.proofs.SmallDisks.{grown_leaves, grown_may}
use Rattle.frs_disk.proofs.laws.a_new_byte_may_be_missing.Goals as goal

pub returns : goal.returns
returns c = λ image. (grown_leaves image, grown_may image)
