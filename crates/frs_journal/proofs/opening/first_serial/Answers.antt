use Rattle.frs_journal.proofs.Openings.{serial_bytes}
use Rattle.frs_journal.proofs.opening.first_serial.Goals as goal

pub returns : goal.returns
returns c = serial_bytes c.args.bytes.now c.from_le_bytes.result c.from_le_bytes.ensures
