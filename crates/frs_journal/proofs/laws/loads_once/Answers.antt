use Rattle.frs_journal.proofs.Once.{loads_once}
use Rattle.frs_journal.proofs.laws.loads_once.Goals as goal

pub returns : goal.returns
returns g c = loads_once g.M.Machine.law g.met.M.Machine.lawful
