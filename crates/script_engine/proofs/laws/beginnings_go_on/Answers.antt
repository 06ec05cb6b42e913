use Rattle.script_engine.proofs.Runs.{beginnings_go_on}
use Rattle.script_engine.proofs.laws.beginnings_go_on.Goals as goal

pub returns : goal.returns
returns c = beginnings_go_on
