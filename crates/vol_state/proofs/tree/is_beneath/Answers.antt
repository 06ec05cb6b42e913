use Rattle.std.proofs.Common.{◌∙◌, ◌-◌, ◌+◌, sym, ap, arith, length}
use Rattle.vol_state.proofs.Climbing.{climbed}
use Rattle.vol_state.proofs.tree.is_beneath.Goals as goal

pub loop-step-preserved : goal.loop-step-preserved
loop-step-preserved c =
    climbed c.args.shelf.now.items (length c.args.shelf.now.items - c.loop-step._step) (length c.args.shelf.now.items - (c.loop-step._step + 1)) c.args.top c.loop-step.at c.in-Some.up
    (omega (arith, c.loop-step-test.true, ap length c.as_slice-count.ensures.objects)) c.if-at-top.false (sym c.above.ensures ∙ c.in-Some.is)
    ∙ c.loop-step.invariant
