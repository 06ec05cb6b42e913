use Rattle.std.proofs.Common.{◌≡◌, ◌+◌, ap, subst}
use Rattle.frs_base.specs.Identifiers.{database_of}
use Rattle.script_engine.specs.Engines.{ConsumedNext, count_of, unconsumed_by_all}
use Rattle.script_engine.proofs.Beginning.{on_err, still}
use Rattle.script_engine.proofs.Events.{consumed_on}
use Rattle.script_engine.proofs.engine.Engine.consume.Goals as goal

pub unreachable-requires : goal.unreachable-requires
unreachable-requires c =
    let (s, stands) = c.requires.scene in
    let on = consumed_on c.args.at c.args.moment c.in_ok-reply.reply c.args.self.now c.event.new.self s c.requires.early c.requires.room stands c.event.ensures.names c.in_ok-reply.ensures.ok in
    let reads = on.reads in let said = c.consumed_of.ensures in let none = c.in_default.is in cc

pub returns-clause-ok : goal.returns-clause-ok
returns-clause-ok c = λ s stands.
    let on = consumed_on c.args.at c.args.moment c.in_ok-reply.reply c.args.self.now c.event.new.self s c.requires.early c.requires.room stands c.event.ensures.names c.in_ok-reply.ensures.ok in
    let reads = on.reads in let said = c.consumed_of.ensures in let some = c.in-Some.is in
    let same : on.outcome ≡ c.in-Some.outcome = cc in
    (on.after, subst (λ o. ConsumedNext s.world (database_of (c.args.at + 1)) c.args.moment o on.after) same on.consumed, on.stands)

pub returns-clause-made : goal.returns-clause-made
returns-clause-made c =
    let (s, stands) = c.requires.scene in
    (consumed_on c.args.at c.args.moment c.in_ok-reply.reply c.args.self.now c.event.new.self s c.requires.early c.requires.room stands c.event.ensures.names c.in_ok-reply.ensures.ok).made

pub returns-clause-fewer : goal.returns-clause-fewer
returns-clause-fewer c =
    let (s, stands) = c.requires.scene in
    let on = consumed_on c.args.at c.args.moment c.in_ok-reply.reply c.args.self.now c.event.new.self s c.requires.early c.requires.room stands c.event.ensures.names c.in_ok-reply.ensures.ok in
    let reads = on.reads in let said = c.consumed_of.ensures in let some = c.in-Some.is in
    let same : on.outcome ≡ c.in-Some.outcome = cc in
    subst (λ o. unconsumed_by_all c.event.new.self + count_of o ≡ unconsumed_by_all c.args.self.now) same on.fewer

pub returns-in_err-reply-clause-err : goal.returns-in_err-reply-clause-err
returns-in_err-reply-clause-err c = λ s stands. on_err _ (still c.args.self.now c.event.new.self s stands (ap (λ x. x.items) c.event.ensures.names) c.in_err-reply.ensures.err)

pub returns-clause-came : goal.returns-clause-came
returns-clause-came c = let said = c.consumed_of.ensures in let some = c.in-Some.is in (c.in_ok-reply.reply, c.in_ok-reply.ensures.entered, cc)
