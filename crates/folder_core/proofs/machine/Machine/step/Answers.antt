use Rattle.folder_core.proofs.Planned.{planned_on}
use Rattle.folder_core.proofs.machine.Machine.step.Goals as goal

pub returns-clause-planned : goal.returns-clause-planned
returns-clause-planned c =
    planned_on c.step_laws.ensures.on c.args.self.now c.do_step.new.self c.args.step.now c.in_ok-answer.answer.reply c.args.agenda.now c.book.ensures.sound c.book-2.ensures.sound c.requires.next c.in_ok-answer.ensures.answers
    c.requires.last c.requires.planned
