use Rattle.ndr_core.proofs.Bytes.{number_8_lawful, number_16_lawful, number_32_lawful, number_64_lawful}
use Rattle.ndr_core.proofs.laws.numbers_are_lawful.Goals as goal

pub returns-clause-of_1 : goal.returns-clause-of_1
returns-clause-of_1 c = number_8_lawful

pub returns-clause-of_2 : goal.returns-clause-of_2
returns-clause-of_2 c = number_16_lawful

pub returns-clause-of_4 : goal.returns-clause-of_4
returns-clause-of_4 c = number_32_lawful

pub returns-clause-of_8 : goal.returns-clause-of_8
returns-clause-of_8 c = number_64_lawful
