use Rattle.frs_disk.proofs.SmallDisks.{written_leaves, written_may}
use Rattle.frs_disk.proofs.laws.a_written_byte_may_be_any.Goals as goal

pub returns : goal.returns
returns c = λ image. (written_leaves image, written_may image)
