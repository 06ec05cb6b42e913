use Rattle.ndr_core.proofs.Identifiers.{guid_lawful, handle_lawful}
use Rattle.ndr_core.proofs.laws.identifiers_are_lawful.Goals as goal

pub returns-clause-guids : goal.returns-clause-guids
returns-clause-guids c = guid_lawful

pub returns-clause-handles : goal.returns-clause-handles
returns-clause-handles c = handle_lawful
