use Rattle.rpc_pdu.proofs.Spelled.{never_both, none_begins}
use Rattle.rpc_pdu.proofs.laws.spellings_are_apart.Goals as goal

pub returns-clause-one : goal.returns-clause-one
returns-clause-one c = none_begins

pub returns-clause-never_both : goal.returns-clause-never_both
returns-clause-never_both c = never_both
