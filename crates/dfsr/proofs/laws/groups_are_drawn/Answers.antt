use Rattle.dfsr.proofs.Behind.{some_groups}
use Rattle.dfsr.proofs.laws.groups_are_drawn.Goals as goal

pub returns : goal.returns
returns c = some_groups
