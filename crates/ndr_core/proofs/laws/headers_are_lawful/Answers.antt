use Rattle.ndr_core.proofs.Arrays.{conformant_lawful, varying_lawful}
use Rattle.ndr_core.proofs.Optional.{unique_lawful}
use Rattle.ndr_core.proofs.laws.headers_are_lawful.Goals as goal

pub returns-clause-conformant : goal.returns-clause-conformant
returns-clause-conformant c = conformant_lawful

pub returns-clause-varying : goal.returns-clause-varying
returns-clause-varying c = varying_lawful

pub returns-clause-unique : goal.returns-clause-unique
returns-clause-unique c = unique_lawful
