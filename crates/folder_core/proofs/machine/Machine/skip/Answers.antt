use Rattle.folder_core.proofs.Consuming.{may_skip}
use Rattle.folder_core.proofs.machine.Machine.skip.Goals as goal

pub widen-requires-clause-may : goal.widen-requires-clause-may
widen-requires-clause-may c = may_skip c.args.self.now c.args.usn c.book.ensures.sound c.requires.numbers c.requires.next
