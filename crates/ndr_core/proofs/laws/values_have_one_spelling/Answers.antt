use Rattle.ndr_core.proofs.OneSpelling.{conformant_one, guid_one, handle_one, number_one, string_one, unique_one, varying_one}
use Rattle.ndr_core.proofs.laws.values_have_one_spelling.Goals as goal

pub returns-clause-numbers : goal.returns-clause-numbers
returns-clause-numbers c = number_one

pub returns-clause-guids : goal.returns-clause-guids
returns-clause-guids c = guid_one

pub returns-clause-handles : goal.returns-clause-handles
returns-clause-handles c = handle_one

pub returns-clause-conformant : goal.returns-clause-conformant
returns-clause-conformant c = conformant_one

pub returns-clause-varying : goal.returns-clause-varying
returns-clause-varying c = varying_one

pub returns-clause-unique : goal.returns-clause-unique
returns-clause-unique c = unique_one

pub returns-clause-strings : goal.returns-clause-strings
returns-clause-strings c = string_one
