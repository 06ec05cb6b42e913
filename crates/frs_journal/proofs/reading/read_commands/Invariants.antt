use Rattle.std.proofs.Common.{length, ◌-◌}
use Rattle.frs_journal.specs.Reading.{ReadTo}
use Rattle.frs_journal.proofs.reading.read_commands.Given as goal

abbrev pub invariant-loop-at : goal.invariant-loop-at
invariant-loop-at g l = ReadTo g.M.Machine.law l.bytes l.at l.saved l.commands.items

abbrev pub decreases-loop-at : goal.decreases-loop-at
decreases-loop-at g l = length l.bytes - l.at
