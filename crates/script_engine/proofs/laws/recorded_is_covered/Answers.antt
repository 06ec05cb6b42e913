use Rattle.script_engine.proofs.Lasting.{recorded_is_covered}
use Rattle.script_engine.proofs.laws.recorded_is_covered.Goals as goal

pub returns : goal.returns
returns c = recorded_is_covered
