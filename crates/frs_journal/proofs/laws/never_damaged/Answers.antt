use Rattle.frs_journal.proofs.Undamaged.{never_damaged}
use Rattle.frs_journal.proofs.laws.never_damaged.Goals as goal

pub returns : goal.returns
returns g c = never_damaged g.M.Machine.law g.met.M.Machine.lawful
