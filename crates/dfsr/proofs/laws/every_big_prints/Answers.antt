use Rattle.dfsr.proofs.Behind.{big_prints}
use Rattle.dfsr.proofs.laws.every_big_prints.Goals as goal

pub returns : goal.returns
returns c = big_prints
