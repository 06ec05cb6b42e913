use Rattle.std.specs.Prelude.{option_copied}
use Rattle.install_plan.proofs.Held.{is_shown, not_shown}
use Rattle.install_plan.proofs.records.shown_record.Goals as goal

pub returns-then-not-is_among : goal.returns-then-not-is_among
returns-then-not-is_among c =
    not_shown c.args.book.now.state c.args.shown.now c.requires.shown c.args.uid.now (λ there. let yes = c.is_among.ensures.1 there in absurd (cc))

pub returns : goal.returns
returns c =
    is_shown c.args.book.now.state c.args.shown.now c.requires.book c.requires.shown c.args.uid.now (option_copied c.held.result)
    (c.is_among.ensures.0 c.if-not-is_among.false) c.held.ensures
