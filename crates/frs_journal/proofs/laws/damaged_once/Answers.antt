use Rattle.frs_journal.proofs.Places.{damaged_once}
use Rattle.frs_journal.proofs.laws.damaged_once.Goals as goal

pub returns : goal.returns
returns g c = damaged_once g.M.Machine.law g.met.M.Machine.lawful
