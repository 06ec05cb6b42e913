use Rattle.frs_disk.proofs.SmallDisks.{cut_leaves, cut_may}
use Rattle.frs_disk.proofs.laws.a_cut_may_be_undone.Goals as goal

pub returns : goal.returns
returns c = λ image. (cut_leaves image, cut_may image)
