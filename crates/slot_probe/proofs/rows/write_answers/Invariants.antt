use Rattle.std.proofs.Common.{length}
use Rattle.std.specs.Prelude.{string_bytes}
use Rattle.slot_probe.proofs.Writing.{SoFar}
use Rattle.slot_probe.proofs.rows.write_answers.Given as goal

-- the rows so far were answered
abbrev pub invariant-loop-end : goal.invariant-loop-end
invariant-loop-end g l = SoFar l.fn.rows l.rest (g.K.Sink.taken l.fn.out) (g.K.Sink.taken l.out) (string_bytes l.pending)

abbrev pub decreases-loop-end : goal.decreases-loop-end
decreases-loop-end g l = length l.rest
