use Rattle.script_engine.proofs.Runs.{every_script}
use Rattle.script_engine.proofs.laws.every_script_prints.Goals as goal

pub returns : goal.returns
returns c = every_script
