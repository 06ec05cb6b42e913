use Rattle.dfsr.proofs.Causes.{bad_lines_are_one}
use Rattle.dfsr.proofs.laws.bad_lines_are_one.Goals as goal

pub returns : goal.returns
returns c = bad_lines_are_one
