use Rattle.ndr_core.proofs.Text.{string_lawful}
use Rattle.ndr_core.proofs.laws.strings_are_lawful.Goals as goal

pub returns : goal.returns
returns c = string_lawful
