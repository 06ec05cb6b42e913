use Rattle.frs_disk.proofs.Lasting.{now_might}
use Rattle.frs_disk.proofs.laws.the_present_is_a_moment.Goals as goal

pub returns : goal.returns
returns c = now_might
