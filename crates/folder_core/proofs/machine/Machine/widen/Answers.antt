use Rattle.folder_core.proofs.machine.Machine.widen.Goals as goal

pub returns-in-Ok-clause-noted : goal.returns-in-Ok-clause-noted
returns-in-Ok-clause-noted c = record {
  mark = c.requires.mark;
  stays = λ e. absurd (cc e);
  moves = λ e. c.requires.may.changes c.go_on.new.self.book c.in-Ok.ensures.ok.book;
}
