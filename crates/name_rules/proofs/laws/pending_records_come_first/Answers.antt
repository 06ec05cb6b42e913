use Rattle.name_rules.proofs.Examples.{pending_comes_first}
use Rattle.name_rules.proofs.laws.pending_records_come_first.Goals as goal

pub returns : goal.returns
returns c = pending_comes_first
