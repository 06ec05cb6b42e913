use Rattle.vol_state.specs.Journal.{IsNumbered}
use Rattle.plan_tests.proofs.made.fill_volume.Given as goal

abbrev pub invariant-loop-line : goal.invariant-loop-line
invariant-loop-line l = IsNumbered l.volume.state
