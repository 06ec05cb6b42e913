use Rattle.script_engine.proofs.Prints.{every_line}
use Rattle.script_engine.proofs.laws.every_line_prints.Goals as goal

pub returns : goal.returns
returns c = every_line
