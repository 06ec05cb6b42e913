use Rattle.std.proofs.Common.{inr}
use Rattle.frs_disk.proofs.Ringing.{fails_now}
use Rattle.frs_journal.proofs.loading.read_all.Goals as goal

pub returns-in_default-clause-halts : goal.returns-in_default-clause-halts
returns-in_default-clause-halts g c =
    let x = g.D.FrsDisk.alarm in
    (fails_now (x c.args.disk.now) (x c.length.new.self) (inr c.in_default.ensures.alarm), c.faults.ensures)
