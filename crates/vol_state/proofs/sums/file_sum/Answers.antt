use Rattle.std.proofs.Common.{rules}
use Rattle.vol_state.specs.Sums.{file_sum}
use Rattle.vol_state.proofs.sums.file_sum.Goals as goal

pub returns : goal.returns
unfolding file_sum
returns c = search rules
