use Rattle.folder_core.proofs.Installing.{next_is}
use Rattle.folder_core.proofs.machine.Machine.next_step.Goals as goal

pub returns-clause-next : goal.returns-clause-next
returns-clause-next c = next_is (record { volume = c.self.inside.volume.state; book = c.self.inside.book.state }) c.args.self.now c.next_step.result c.self.view_is c.self.invariant c.next_step.ensures.answer
