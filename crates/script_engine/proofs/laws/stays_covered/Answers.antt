use Rattle.script_engine.proofs.Lasting.{stays_covered}
use Rattle.script_engine.proofs.laws.stays_covered.Goals as goal

pub returns : goal.returns
returns c = stays_covered
