use Rattle.frs_journal.proofs.Clears.{has_rest}
use Rattle.frs_journal.proofs.slot.fill.Goals as goal

pub append_record-requires-clause-slot : goal.append_record-requires-clause-slot
append_record-requires-clause-slot g c = has_rest (g.D.FrsDisk.states c.args.disk.now) c.requires.slot
