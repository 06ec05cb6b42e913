use Rattle.std.proofs.Common.{◌+◌, ◌∙◌, [], sym, subst, arith, Ok, Err, inl, refl}
use Rattle.frs_base.specs.Identifiers.{database_of}
use Rattle.vol_state.specs.declared.operation.LocalOp.TheVariants.{Put}
use Rattle.script_engine.specs.Engines.{ConsumedAll, Operated}
use Rattle.script_engine.specs.Scene.{in_world}
use Rattle.script_engine.specs.Text.{Changes}
use Rattle.script_engine.proofs.Beginning.{change_begun, named_held, on_err, put_refused}
use Rattle.script_engine.proofs.Exhausting.{all_refused, consumed_some}
use Rattle.script_engine.proofs.Spoken.{change_cut, change_done, change_refused, known_said, unknown_said, within_held}
use Rattle.script_engine.proofs.engine.Engine.change.Goals as goal

pub returns-in_default-clause-ok : goal.returns-in_default-clause-ok
returns-in_default-clause-ok c = λ s stands.
    unknown_said c.args.self.now s c.args.name.now (λ d said after. Changes s c.args.name.now d (Put c.args.path.now []) c.args.moment said after) c.unknown_text.result stands
    (sym c.place_of.ensures ∙ c.in_default.is) c.unknown_text.ensures

pub operate-requires-clause-within : goal.operate-requires-clause-within
operate-requires-clause-within c = let (s, stands) = c.requires.scene in within_held c.args.self.now s c.args.name.now c.in-Some.at stands (sym c.place_of.ensures ∙ c.in-Some.is)

pub returns-in-Err-clause-ok : goal.returns-in-Err-clause-ok
returns-in-Err-clause-ok c = λ s stands.
    let d = database_of (c.in-Some.at + 1) in
    let (w, operated, on) = c.in_ok-why.ensures.ok s stands in
    let done = subst (λ o. Operated s.world d c.in_ok-operation.operation o w) c.in-Err.is operated in
    let refused = subst (λ o. Operated s.world d o (Err c.in-Err.why) w) c.in_ok-operation.ensures done in
    known_said c.args.self.now s c.args.name.now (λ d said after. Changes s c.args.name.now d (Put c.args.path.now []) c.args.moment said after) c.local_text.result c.in-Some.at _ (in_world s w) c.operate.new.self stands
    (sym c.place_of.ensures ∙ c.in-Some.is) c.local_text.ensures (change_refused s c.args.name.now d (Put c.args.path.now []) c.args.moment c.in-Err.why w refused) on

pub consume_all-requires-clause-within : goal.consume_all-requires-clause-within
consume_all-requires-clause-within c =
    let (s, stands) = c.requires.scene in
    let before = within_held c.args.self.now s c.args.name.now c.in-Some.at stands (sym c.place_of.ensures ∙ c.in-Some.is) in
    let many = c.operate.ensures.many in omega (arith, before, many)

pub consume_all-requires-clause-scene : goal.consume_all-requires-clause-scene
consume_all-requires-clause-scene c =
    let (s, stands) = c.requires.scene in
    let (w, operated, on) = c.in_ok-why.ensures.ok s stands in
    (in_world s w, on)

pub refusal_text-requires : goal.refusal_text-requires
refusal_text-requires c =
    let d = database_of (c.in-Some.at + 1) in
    let (s, stands) = c.requires.scene in
    let (put, operated, on) = c.in_ok-why.ensures.ok s stands in
    let (w, consumed, there) = c.in_ok-last.ensures.ok (in_world s put) on in
    let (done, all) = subst (λ o. ConsumedAll put d c.args.moment o w) c.in-Err-2.is consumed in
    all_refused put d c.args.moment done c.in-Err-2.refusal w all

pub returns-in-Ok-clause-ok : goal.returns-in-Ok-clause-ok
returns-in-Ok-clause-ok c = λ s stands.
    let d = database_of (c.in-Some.at + 1) in
    let (put, operated, on) = c.in_ok-why.ensures.ok s stands in
    let first = subst (λ o. Operated s.world d c.in_ok-operation.operation o put) c.in_default-2.is operated in
    let done = subst (λ o. Operated s.world d o (Ok c.in_default-2.field-0) put) c.in_ok-operation.ensures first in
    let (w, consumed, there) = c.in_ok-last.ensures.ok (in_world s put) on in
    let all = subst (λ o. ConsumedAll put d c.args.moment o w) c.in-Ok.is consumed in
    known_said c.args.self.now s c.args.name.now (λ d said after. Changes s c.args.name.now d (Put c.args.path.now []) c.args.moment said after) c.last_text.result c.in-Some.at _ (in_world s w) c.consume_all.new.self stands
    (sym c.place_of.ensures ∙ c.in-Some.is) c.last_text.ensures (change_done s c.args.name.now d (Put c.args.path.now []) c.args.moment c.in_default-2.field-0 c.in-Ok.last put w done all) there

pub returns-in-Err-2-clause-ok : goal.returns-in-Err-2-clause-ok
returns-in-Err-2-clause-ok c = λ s stands.
    let d = database_of (c.in-Some.at + 1) in
    let (put, operated, on) = c.in_ok-why.ensures.ok s stands in
    let first = subst (λ o. Operated s.world d c.in_ok-operation.operation o put) c.in_default-2.is operated in
    let done = subst (λ o. Operated s.world d o (Ok c.in_default-2.field-0) put) c.in_ok-operation.ensures first in
    let (w, consumed, there) = c.in_ok-last.ensures.ok (in_world s put) on in
    let all = subst (λ o. ConsumedAll put d c.args.moment o w) c.in-Err-2.is consumed in
    known_said c.args.self.now s c.args.name.now (λ d said after. Changes s c.args.name.now d (Put c.args.path.now []) c.args.moment said after) c.refusal_text.result c.in-Some.at _ (in_world s w) c.consume_all.new.self stands
    (sym c.place_of.ensures ∙ c.in-Some.is) c.refusal_text.ensures (change_cut s c.args.name.now d (Put c.args.path.now []) c.args.moment c.in_default-2.field-0 c.in-Err-2.refusal put w done all) there

pub returns-in_default-clause-err : goal.returns-in_default-clause-err
returns-in_default-clause-err c = λ s stands. on_err c.unknown_text.result (s, inl refl, stands)

pub returns-in_err-operation-clause-err : goal.returns-in_err-operation-clause-err
returns-in_err-operation-clause-err c = λ s stands. on_err c.from_residual.result (s, inl refl, stands)

pub returns-in_err-why-clause-err : goal.returns-in_err-why-clause-err
returns-in_err-why-clause-err c = λ s stands. on_err c.from_residual-in_err-why.result (s, inl refl, c.in_err-why.ensures.err s stands)

pub returns-in-Err-clause-err : goal.returns-in-Err-clause-err
returns-in-Err-clause-err c = λ s stands.
    let d = database_of (c.in-Some.at + 1) in
    let (w, operated, on) = c.in_ok-why.ensures.ok s stands in
    let done = subst (λ o. Operated s.world d c.in_ok-operation.operation o w) c.in-Err.is operated in
    let refused = subst (λ o. Operated s.world d o (Err c.in-Err.why) w) c.in_ok-operation.ensures done in
    on_err c.local_text.result (in_world s w, put_refused s c.args.name.now d (Put c.args.path.now []) c.args.moment c.in-Err.why w refused, on)

pub returns-in_err-last-clause-err : goal.returns-in_err-last-clause-err
returns-in_err-last-clause-err c = λ s stands.
    let d = database_of (c.in-Some.at + 1) in
    let name = c.args.name.now in
    let named = named_held c.args.self.now s name c.in-Some.at stands (sym c.place_of.ensures ∙ c.in-Some.is) in
    let (put, operated, on) = c.in_ok-why.ensures.ok s stands in
    let first = subst (λ o. Operated s.world d c.in_ok-operation.operation o put) c.in_default-2.is operated in
    let done = subst (λ o. Operated s.world d o (Ok c.in_default-2.field-0) put) c.in_ok-operation.ensures first in
    let (w, consumed, some, there) = c.in_err-last.ensures.err (in_world s put) on in
    on_err c.from_residual-in_err-last.result (in_world s w, change_begun s name d (Put c.args.path.now []) c.args.moment c.in_default-2.field-0 put w named done (consumed, some), there)

pub returns-in-Ok-clause-err : goal.returns-in-Ok-clause-err
returns-in-Ok-clause-err c = λ s stands.
    let d = database_of (c.in-Some.at + 1) in
    let name = c.args.name.now in
    let named = named_held c.args.self.now s name c.in-Some.at stands (sym c.place_of.ensures ∙ c.in-Some.is) in
    let (put, operated, on) = c.in_ok-why.ensures.ok s stands in
    let first = subst (λ o. Operated s.world d c.in_ok-operation.operation o put) c.in_default-2.is operated in
    let done = subst (λ o. Operated s.world d o (Ok c.in_default-2.field-0) put) c.in_ok-operation.ensures first in
    let (w, consumed, there) = c.in_ok-last.ensures.ok (in_world s put) on in
    on_err c.last_text.result (in_world s w, change_begun s name d (Put c.args.path.now []) c.args.moment c.in_default-2.field-0 put w named done (consumed_some put d c.args.moment c.in_ok-last.field-0 w consumed), there)

pub returns-in-Err-2-clause-err : goal.returns-in-Err-2-clause-err
returns-in-Err-2-clause-err c = λ s stands.
    let d = database_of (c.in-Some.at + 1) in
    let name = c.args.name.now in
    let named = named_held c.args.self.now s name c.in-Some.at stands (sym c.place_of.ensures ∙ c.in-Some.is) in
    let (put, operated, on) = c.in_ok-why.ensures.ok s stands in
    let first = subst (λ o. Operated s.world d c.in_ok-operation.operation o put) c.in_default-2.is operated in
    let done = subst (λ o. Operated s.world d o (Ok c.in_default-2.field-0) put) c.in_ok-operation.ensures first in
    let (w, consumed, there) = c.in_ok-last.ensures.ok (in_world s put) on in
    on_err c.refusal_text.result (in_world s w, change_begun s name d (Put c.args.path.now []) c.args.moment c.in_default-2.field-0 put w named done (consumed_some put d c.args.moment c.in_ok-last.field-0 w consumed), there)
