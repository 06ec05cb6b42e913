use Rattle.name_rules.proofs.Made.{passes_replicas}
use Rattle.name_rules.proofs.laws.nothing_is_made_of_a_replica_record.Goals as goal

pub returns : goal.returns
returns c = passes_replicas
