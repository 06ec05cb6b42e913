use Rattle.std.proofs.Common.{◌≡◌, drop}
use Rattle.ndr_core.specs.Arrays.{appends_many}
use Rattle.ndr_core.proofs.wire.put_many.Given as goal

abbrev pub invariant-loop-value : goal.invariant-loop-value
invariant-loop-value g l = appends_many g.T.Wire.appends l.out (drop l.value-index l.values) ≡ appends_many g.T.Wire.appends l.fn.out l.values
