use Rattle.std.proofs.Common.{◌≡◌, ◌+◌, ap, subst}
use Rattle.frs_base.specs.Identifiers.{database_of}
use Rattle.script_engine.specs.Engines.{Stands}
use Rattle.script_engine.specs.Pulls.{Took, after_taking}
use Rattle.script_engine.proofs.Beginning.{on_err, still}
use Rattle.script_engine.proofs.Puller.{adopted_on}
use Rattle.script_engine.proofs.engine.Engine.adopt.Goals as goal

pub unreachable-requires : goal.unreachable-requires
unreachable-requires c =
    let (s, stands, can) = c.requires.may in
    let on = adopted_on c.args.at c.args.from c.args.entry c.args.form c.args.update c.in_ok-reply.reply c.args.self.now c.event.new.self s c.requires.room stands c.event.ensures.names c.in_ok-reply.ensures.ok c.requires.form can in
    let reads = on.reads in let said = c.taken_of.ensures in let none = c.in_default.is in cc

pub returns-clause-ok : goal.returns-clause-ok
returns-clause-ok c = λ s given stands can form.
    let on = adopted_on c.args.at c.args.from c.args.entry c.args.form c.args.update c.in_ok-reply.reply c.args.self.now c.event.new.self s c.requires.room stands c.event.ensures.names c.in_ok-reply.ensures.ok c.requires.form can in
    let reads = on.reads in let said = c.taken_of.ensures in let some = c.in-Some.is in
    let same : on.outcome ≡ c.in-Some.outcome = cc in (
      on.after,
      subst (λ o. Took s.world (database_of (c.args.at + 1)) c.args.from c.args.update o on.after) same on.took,
      subst (λ o. Stands c.event.new.self (after_taking s (database_of (c.args.at + 1)) c.args.update given o on.after)) same (on.stands given form),
    )

pub returns-clause-made : goal.returns-clause-made
returns-clause-made c =
    let (s, stands, can) = c.requires.may in
    (adopted_on c.args.at c.args.from c.args.entry c.args.form c.args.update c.in_ok-reply.reply c.args.self.now c.event.new.self s c.requires.room stands c.event.ensures.names c.in_ok-reply.ensures.ok c.requires.form can).made

pub returns-in_err-reply-clause-err : goal.returns-in_err-reply-clause-err
returns-in_err-reply-clause-err c = λ s stands. on_err _ (still c.args.self.now c.event.new.self s stands (ap (λ x. x.items) c.event.ensures.names) c.in_err-reply.ensures.err)

pub returns-clause-came : goal.returns-clause-came
returns-clause-came c = let said = c.taken_of.ensures in let some = c.in-Some.is in (c.in_ok-reply.reply, c.in_ok-reply.ensures.entered, cc)
