use Rattle.std.proofs.Common.{◌≡◌, ◌+◌, ◌∙◌, ap, subst}
use Rattle.frs_base.specs.Identifiers.{database_of}
use Rattle.pinned_pages.specs.declared.answer.FileAnswer.TheVariants.{Found, NotYet, NoRecord}
use Rattle.script_engine.proofs.Beginning.{on_err, still}
use Rattle.script_engine.proofs.Puller.{Answers, fetched_on, has_form}
use Rattle.script_engine.proofs.engine.Engine.fetch.Goals as goal

pub unreachable-requires : goal.unreachable-requires
unreachable-requires c =
    let (s, stands, covered) = c.requires.may in
    let on = fetched_on c.files_have_forms.ensures c.args.at c.args.update.now c.in_ok-reply.reply c.args.self.now c.event.new.self s stands c.event.ensures.names c.in_ok-reply.ensures.ok covered in
    let reads = on.reads in let said = c.file_of.ensures in let some = c.in-Some-NoRecord.is in let record_is = c.in-Some-NoRecord.field-0-is in
    let same : on.outcome ≡ NoRecord = cc in
    subst (Answers s (database_of (c.args.at + 1)) c.args.update.now) same on.answers

pub returns-in-Some-Found-clause-ok : goal.returns-in-Some-Found-clause-ok
returns-in-Some-Found-clause-ok c = λ s stands covered.
    let on = fetched_on c.files_have_forms.ensures c.args.at c.args.update.now c.in_ok-reply.reply c.args.self.now c.event.new.self s stands c.event.ensures.names c.in_ok-reply.ensures.ok covered in
    let reads = on.reads in let said = c.file_of.ensures in let some = c.in-Some-Found.is in let found = c.in-Some-Found.field-0-is in
    let same : on.outcome ≡ Found c.in-Some-Found.at c.in-Some-Found.update c.in-Some-Found.body = cc in
    let (file, of_file, body, (given, gives, is)) = subst (Answers s (database_of (c.args.at + 1)) c.args.update.now) same on.answers in
    ((file, of_file, has_form c.in-Some-Found.update c.in-Some-Found.body c.form_of-form.result body c.form_of-form.ensures.length c.form_of-form.ensures.form, (given, gives, c.form_of-form.ensures.form ∙ is)), on.stands)

pub returns-in-Some-Found-clause-made : goal.returns-in-Some-Found-clause-made
returns-in-Some-Found-clause-made c =
    let (s, stands, covered) = c.requires.may in
    (fetched_on c.files_have_forms.ensures c.args.at c.args.update.now c.in_ok-reply.reply c.args.self.now c.event.new.self s stands c.event.ensures.names c.in_ok-reply.ensures.ok covered).made

pub returns-in-Some-NotYet-clause-ok : goal.returns-in-Some-NotYet-clause-ok
returns-in-Some-NotYet-clause-ok c = λ s stands covered.
    let on = fetched_on c.files_have_forms.ensures c.args.at c.args.update.now c.in_ok-reply.reply c.args.self.now c.event.new.self s stands c.event.ensures.names c.in_ok-reply.ensures.ok covered in
    let reads = on.reads in let said = c.file_of.ensures in let some = c.in-Some-NotYet.is in let waits = c.in-Some-NotYet.field-0-is in
    let same : on.outcome ≡ NotYet c.in-Some-NotYet.usn = cc in
    (subst (Answers s (database_of (c.args.at + 1)) c.args.update.now) same on.answers, on.stands)

pub returns-in-Some-NotYet-clause-made : goal.returns-in-Some-NotYet-clause-made
returns-in-Some-NotYet-clause-made c =
    let (s, stands, covered) = c.requires.may in
    (fetched_on c.files_have_forms.ensures c.args.at c.args.update.now c.in_ok-reply.reply c.args.self.now c.event.new.self s stands c.event.ensures.names c.in_ok-reply.ensures.ok covered).made

pub returns-in_err-reply-clause-err : goal.returns-in_err-reply-clause-err
returns-in_err-reply-clause-err c = λ s stands. on_err _ (still c.args.self.now c.event.new.self s stands (ap (λ x. x.items) c.event.ensures.names) c.in_err-reply.ensures.err)

pub returns-in-Some-Found-clause-came : goal.returns-in-Some-Found-clause-came
returns-in-Some-Found-clause-came c =
    let said = c.file_of.ensures in let some = c.in-Some-Found.is in let found = c.in-Some-Found.field-0-is in let form = c.form_of-form.ensures.form in
    (c.in_ok-reply.reply, c.in_ok-reply.ensures.entered, cc)

pub returns-in-Some-NotYet-clause-came : goal.returns-in-Some-NotYet-clause-came
returns-in-Some-NotYet-clause-came c =
    let said = c.file_of.ensures in let some = c.in-Some-NotYet.is in let waits = c.in-Some-NotYet.field-0-is in
    (c.in_ok-reply.reply, c.in_ok-reply.ensures.entered, cc)
