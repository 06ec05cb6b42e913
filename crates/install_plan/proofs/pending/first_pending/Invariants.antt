use Rattle.install_plan.proofs.Locals.{NoneBefore}
use Rattle.install_plan.proofs.pending.first_pending.Given as goal

-- none of those so far is local
abbrev pub invariant-loop-usn : goal.invariant-loop-usn
invariant-loop-usn l = NoneBefore l.volume.state l.from l.usn
