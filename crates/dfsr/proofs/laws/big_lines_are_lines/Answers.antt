use Rattle.dfsr.proofs.Behind.{all_are_lines}
use Rattle.dfsr.proofs.laws.big_lines_are_lines.Goals as goal

pub returns : goal.returns
returns c = all_are_lines
