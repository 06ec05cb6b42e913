use Rattle.script_engine.proofs.OneText.{run_one}
use Rattle.script_engine.proofs.laws.runs_print_one_text.Goals as goal

pub returns : goal.returns
returns c = run_one
