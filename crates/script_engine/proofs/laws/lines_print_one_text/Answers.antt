use Rattle.script_engine.proofs.OneText.{does_one}
use Rattle.script_engine.proofs.laws.lines_print_one_text.Goals as goal

pub returns : goal.returns
returns c = does_one
