use Rattle.std.proofs.Common.{◌≡◌, ◌+◌, ap, subst}
use Rattle.frs_base.specs.Identifiers.{database_of}
use Rattle.script_engine.specs.Installing.{Installs}
use Rattle.script_engine.proofs.Beginning.{on_err, still}
use Rattle.script_engine.proofs.Events.{installed_on}
use Rattle.script_engine.proofs.engine.Engine.install.Goals as goal

pub unreachable-requires : goal.unreachable-requires
unreachable-requires c =
    let (s, stands) = c.requires.scene in
    let on = installed_on c.args.at c.in_ok-reply.reply c.args.self.now c.event.new.self s stands c.event.ensures.names c.in_ok-reply.ensures.ok in
    let reads = on.reads in let said = c.installed_of.ensures in let none = c.in_default.is in cc

pub returns-clause-ok : goal.returns-clause-ok
returns-clause-ok c = λ s stands.
    let on = installed_on c.args.at c.in_ok-reply.reply c.args.self.now c.event.new.self s stands c.event.ensures.names c.in_ok-reply.ensures.ok in
    let reads = on.reads in let said = c.installed_of.ensures in let some = c.in-Some.is in
    let same : on.outcome ≡ c.in-Some.outcome = cc in
    (on.after, subst (λ o. Installs s (database_of (c.args.at + 1)) o on.after) same on.installs, on.stands)

pub returns-clause-made : goal.returns-clause-made
returns-clause-made c =
    let (s, stands) = c.requires.scene in
    (installed_on c.args.at c.in_ok-reply.reply c.args.self.now c.event.new.self s stands c.event.ensures.names c.in_ok-reply.ensures.ok).made

pub returns-in_err-reply-clause-err : goal.returns-in_err-reply-clause-err
returns-in_err-reply-clause-err c = λ s stands. on_err _ (still c.args.self.now c.event.new.self s stands (ap (λ x. x.items) c.event.ensures.names) c.in_err-reply.ensures.err)

pub returns-clause-came : goal.returns-clause-came
returns-clause-came c = let said = c.installed_of.ensures in let some = c.in-Some.is in (c.in_ok-reply.reply, c.in_ok-reply.ensures.entered, cc)
