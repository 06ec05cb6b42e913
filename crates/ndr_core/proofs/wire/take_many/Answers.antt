use Rattle.std.proofs.Common.{rules}
use Rattle.std.proofs.lemmas.Result.{err_from_is_err_and}
use Rattle.ndr_core.specs.Arrays.{reads_many}
use Rattle.ndr_core.proofs.Loops.{ends, goes_on}
use Rattle.ndr_core.proofs.wire.take_many.Goals as goal

pub returns-in_err-value-clause-read : goal.returns-in_err-value-clause-read
returns-in_err-value-clause-read g c =
    let p = err_from_is_err_and c.from_residual.result c.from_residual.ensures.1 in
    rw (p.1, p.2) (ends g.T.Wire.reads c.in_err-value.field-0.0 c.loop.values.items c.args.count c.loop.counter c.loop.r (reads_many g.T.Wire.reads c.args.count c.args.r.now) c.loop-test.true c.in_err-value.ensures c.loop.invariant.read)

pub loop-preserved : goal.loop-preserved
loop-preserved g c =
    record {
      read = rw c.in_ok-push.ensures.items (goes_on g.T.Wire.reads c.loop.values.items c.args.count c.loop.counter c.loop.r c.in_ok-value.value c.take.new.r (reads_many g.T.Wire.reads c.args.count c.args.r.now) c.loop-test.true c.in_ok-value.ensures c.loop.invariant.read);
      counted = search rules;
    }
