use Rattle.std.proofs.Common.{inr}
use Rattle.folder_core.proofs.Installing.{allowed_of, may_install}
use Rattle.folder_core.proofs.machine.Machine.install_by.Goals as goal

pub operate-requires-clause-allowed : goal.operate-requires-clause-allowed
operate-requires-clause-allowed c =
    allowed_of c.args.self.now c.book.ensures.sound c.args.cmd (may_install c.args.self.now c.book.ensures.sound c.args.step.now c.args.cmd c.requires.next c.requires.operation)

pub operate-requires-clause-may : goal.operate-requires-clause-may
operate-requires-clause-may c = inr (may_install c.args.self.now c.book.ensures.sound c.args.step.now c.args.cmd c.requires.next c.requires.operation)
