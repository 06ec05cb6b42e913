use Rattle.dfsr.proofs.Causes.{one_text}
use Rattle.dfsr.proofs.laws.one_text.Goals as goal

pub returns : goal.returns
returns c = one_text
