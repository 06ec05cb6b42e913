use Rattle.std.proofs.Common.{ap, arith}
use Rattle.credit_gate.specs.Seen.{GateSeen}
use Rattle.credit_gate.proofs.Totals.{has_each}
use Rattle.credit_gate.proofs.gate.Gate.try_enter.Goals as goal

pub returns-clause-alone : goal.returns-clause-alone
returns-clause-alone c = λ is short.
    let limit = ap (λ (g : GateSeen). g.limit) c.self.view_is in
    let all = has_each c.loop-place.place c.args.seat.now.view.places (c.loop-place.invariant.has is) in
    omega (arith, all, short, c.loop-place-test.false, limit)
