use Rattle.std.proofs.Common.{subst, sym}
use Rattle.vol_state.specs.Journal.{IsNumbered}
use Rattle.vol_state.proofs.Numbering.{keeps_numbering}
use Rattle.plan_tests.proofs.made.fill_volume.Goals as goal

pub loop-line-preserved : goal.loop-line-preserved
loop-line-preserved c =
    subst IsNumbered (sym c.take.ensures)
    (keeps_numbering c.in_ok-ready.ready c.ready.new.self.state (subst IsNumbered (sym c.in_ok-ready.ensures.same) c.loop-line.invariant))
