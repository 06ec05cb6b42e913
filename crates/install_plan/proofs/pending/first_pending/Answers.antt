use Rattle.std.proofs.Common.{arith}
use Rattle.install_plan.proofs.Locals.{is_quiet}
use Rattle.install_plan.proofs.pending.first_pending.Goals as goal

pub returns : goal.returns
returns c = is_quiet c.args.volume.now.state c.args.from c.loop-usn.usn c.requires (omega (arith, c.loop-usn-test.false, c.next_usn-usn-end.ensures)) c.loop-usn.invariant
