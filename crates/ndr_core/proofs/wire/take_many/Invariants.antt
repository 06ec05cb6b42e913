use Rattle.std.proofs.Common.{◌≡◌, ◌-◌, length}
use Rattle.ndr_core.specs.Arrays.{reads_many}
use Rattle.ndr_core.proofs.Loops.{with_front}
use Rattle.ndr_core.proofs.wire.take_many.Given as goal

abbrev pub invariant-loop : goal.invariant-loop
invariant-loop g l = record {
  read : with_front l.values.items (reads_many g.T.Wire.reads (l.count - l.counter) l.r) ≡ reads_many g.T.Wire.reads l.count l.fn.r;
  counted : length l.values.items ≡ l.counter;
}
