use Rattle.dfsr.proofs.Causes.{causes_differ}
use Rattle.dfsr.proofs.laws.causes_differ.Goals as goal

pub returns : goal.returns
returns c = causes_differ
