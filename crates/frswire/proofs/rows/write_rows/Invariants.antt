use Rattle.std.proofs.Common.{◌≤◌, length}
use Rattle.std.specs.Prelude.{string_bytes}
use Rattle.frswire.proofs.Writing.{SoFar}
use Rattle.frswire.proofs.rows.write_rows.Given as goal

-- the rows so far were answered
abbrev pub invariant-rows : goal.invariant-rows
invariant-rows g l = record {
  later : g.K.Sink.faults l.fn.out ≤ g.K.Sink.faults l.out;
  told : SoFar l.bytes l.rest l.number (g.K.Sink.taken l.fn.out) (g.K.Sink.taken l.out) (string_bytes l.pending);
}

abbrev pub decreases-rows : goal.decreases-rows
decreases-rows g l = length l.rest
