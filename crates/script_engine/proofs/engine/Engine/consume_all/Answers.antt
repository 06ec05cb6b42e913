use Rattle.std.proofs.Common.{◌≡◌, ◌+◌, ◌++◌, ◌∷◌, [], Some, None, Ok, Err, ◌∙◌, subst, arith}
use Rattle.frs_base.specs.Identifiers.{database_of}
use Rattle.script_engine.specs.Engines.{ConsumedNext, count_of, unconsumed_by_all}
use Rattle.script_engine.specs.Scene.{in_world}
use Rattle.script_engine.proofs.Beginning.{on_err}
use Rattle.script_engine.proofs.Exhausting.{at_end, cut, last_push, one_more}
use Rattle.script_engine.proofs.engine.Engine.consume_all.Goals as goal

pub loop-consumed-smaller : goal.loop-consumed-smaller
loop-consumed-smaller c =
    let outcome : c.in_ok-consumed.field-0 ≡ Ok (Some c.in-Ok-Some.consumed) = let a = c.in-Ok-Some.is in let b = c.in-Ok-Some.field-0-is in cc in
    let fewer : unconsumed_by_all c.consume.new.self + 1 ≡ unconsumed_by_all c.loop-consumed.self = subst (λ o. unconsumed_by_all c.consume.new.self + count_of o ≡ unconsumed_by_all c.loop-consumed.self) outcome c.in_ok-consumed.ensures.fewer in
    omega (arith, fewer)

pub loop-consumed-preserved : goal.loop-consumed-preserved
loop-consumed-preserved c =
    let i = c.loop-consumed.invariant in
    let e = c.in_ok-consumed.ensures in
    let outcome : c.in_ok-consumed.field-0 ≡ Ok (Some c.in-Ok-Some.consumed) = let a = c.in-Ok-Some.is in let b = c.in-Ok-Some.field-0-is in cc in
    record {
      within = let before = i.within in let many = c.consume.ensures.many in omega (arith, before, many);
      scene = let (s, stands) = i.scene in let (w, next, on) = e.ok s stands in (in_world s w, on);
      names = c.consume.ensures.names ∙ i.names;
      made = e.made ∙ i.made;
      ran = λ s stands.
          let (mid, done, so, last, there) = i.ran s stands in
          let (w, next, on) = e.ok (in_world s mid) there in
          let one = subst (λ o. ConsumedNext mid (database_of (c.args.at + 1)) c.args.moment o w) outcome next in
          (w, done ++ c.in-Ok-Some.consumed ∷ [], one_more s.world (database_of (c.args.at + 1)) c.args.moment done mid c.in-Ok-Some.consumed w so one, last_push done c.in-Ok-Some.consumed, on);
    }

pub returns-in-Ok-None-clause-ok : goal.returns-in-Ok-None-clause-ok
returns-in-Ok-None-clause-ok c = λ s stands.
    let e = c.in_ok-consumed.ensures in
    let outcome : c.in_ok-consumed.field-0 ≡ Ok None = let a = c.in-Ok-None.is in let b = c.in-Ok-None.field-0-is in cc in
    let (mid, done, so, last, there) = c.loop-consumed.invariant.ran s stands in
    let (w, next, on) = e.ok (in_world s mid) there in
    let end = subst (λ o. ConsumedNext mid (database_of (c.args.at + 1)) c.args.moment o w) outcome next in
    (w, at_end s.world (database_of (c.args.at + 1)) c.args.moment done mid w c.loop-consumed.last so last end, on)

pub returns-in-Err-clause-ok : goal.returns-in-Err-clause-ok
returns-in-Err-clause-ok c = λ s stands.
    let e = c.in_ok-consumed.ensures in
    let (mid, done, so, last, there) = c.loop-consumed.invariant.ran s stands in
    let (w, next, on) = e.ok (in_world s mid) there in
    let outcome : c.in_ok-consumed.field-0 ≡ Err c.in-Err.refusal = c.in-Err.is in
    let refused = subst (λ o. ConsumedNext mid (database_of (c.args.at + 1)) c.args.moment o w) outcome next in
    (w, cut s.world (database_of (c.args.at + 1)) c.args.moment done mid w c.in-Err.refusal so refused, on)

pub returns-in_err-consumed-clause-err : goal.returns-in_err-consumed-clause-err
returns-in_err-consumed-clause-err c = λ s stands.
    let (w, done, some, last, there) = c.loop-consumed.invariant.ran s stands in
    on_err c.from_residual.result (w, done, some, c.in_err-consumed.ensures.err (in_world s w) there)
