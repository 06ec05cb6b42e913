use Rattle.std.proofs.Common.{◌+◌, ◌∙◌, sym, subst, inl, refl}
use Rattle.frs_base.specs.Identifiers.{database_of}
use Rattle.script_engine.specs.Engines.{ConsumedNext}
use Rattle.script_engine.specs.Scene.{in_world}
use Rattle.script_engine.specs.Text.{Consumes}
use Rattle.script_engine.proofs.Beginning.{named_held, next_begun, on_err}
use Rattle.script_engine.proofs.Spoken.{consumed_done, consumed_refused, known_said, unknown_said, within_held}
use Rattle.script_engine.proofs.engine.Engine.consume_line.Goals as goal

pub returns-in_default-clause-ok : goal.returns-in_default-clause-ok
returns-in_default-clause-ok c = λ s stands.
    unknown_said c.args.self.now s c.args.name.now (λ d said after. Consumes s c.args.name.now d c.args.moment said after) c.unknown_text.result stands (sym c.place_of.ensures ∙ c.in_default.is) c.unknown_text.ensures

pub consume-requires-clause-within : goal.consume-requires-clause-within
consume-requires-clause-within c = let (s, stands) = c.requires.scene in within_held c.args.self.now s c.args.name.now c.in-Some.at stands (sym c.place_of.ensures ∙ c.in-Some.is)

pub returns-in-Ok-clause-ok : goal.returns-in-Ok-clause-ok
returns-in-Ok-clause-ok c = λ s stands.
    let d = database_of (c.in-Some.at + 1) in
    let (w, consumed, on) = c.in_ok-consumed.ensures.ok s stands in
    let done = subst (λ o. ConsumedNext s.world d c.args.moment o w) c.in-Ok.is consumed in
    known_said c.args.self.now s c.args.name.now (λ d said after. Consumes s c.args.name.now d c.args.moment said after) c.last_text.result c.in-Some.at _ (in_world s w) c.consume.new.self stands
    (sym c.place_of.ensures ∙ c.in-Some.is) c.last_text.ensures (consumed_done s c.args.name.now d c.args.moment c.in-Ok.consumed w done) on

pub returns-in-Err-clause-ok : goal.returns-in-Err-clause-ok
returns-in-Err-clause-ok c = λ s stands.
    let d = database_of (c.in-Some.at + 1) in
    let (w, consumed, on) = c.in_ok-consumed.ensures.ok s stands in
    let refused = subst (λ o. ConsumedNext s.world d c.args.moment o w) c.in-Err.is consumed in
    known_said c.args.self.now s c.args.name.now (λ d said after. Consumes s c.args.name.now d c.args.moment said after) c.refusal_text.result c.in-Some.at _ (in_world s w) c.consume.new.self stands
    (sym c.place_of.ensures ∙ c.in-Some.is) c.refusal_text.ensures (consumed_refused s c.args.name.now d c.args.moment c.in-Err.refusal w refused) on

pub returns-in_default-clause-err : goal.returns-in_default-clause-err
returns-in_default-clause-err c = λ s stands. on_err c.unknown_text.result (s, inl refl, stands)

pub returns-in_err-consumed-clause-err : goal.returns-in_err-consumed-clause-err
returns-in_err-consumed-clause-err c = λ s stands. on_err c.from_residual.result (s, inl refl, c.in_err-consumed.ensures.err s stands)

pub returns-in-Ok-clause-err : goal.returns-in-Ok-clause-err
returns-in-Ok-clause-err c = λ s stands.
    let (w, consumed, on) = c.in_ok-consumed.ensures.ok s stands in
    let named = named_held c.args.self.now s c.args.name.now c.in-Some.at stands (sym c.place_of.ensures ∙ c.in-Some.is) in
    on_err c.last_text.result (in_world s w, next_begun s c.args.name.now (database_of (c.in-Some.at + 1)) c.args.moment c.in_ok-consumed.field-0 w named consumed, on)

pub returns-in-Err-clause-err : goal.returns-in-Err-clause-err
returns-in-Err-clause-err c = λ s stands.
    let (w, consumed, on) = c.in_ok-consumed.ensures.ok s stands in
    let named = named_held c.args.self.now s c.args.name.now c.in-Some.at stands (sym c.place_of.ensures ∙ c.in-Some.is) in
    on_err c.refusal_text.result (in_world s w, next_begun s c.args.name.now (database_of (c.in-Some.at + 1)) c.args.moment c.in_ok-consumed.field-0 w named consumed, on)
