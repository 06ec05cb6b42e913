use Rattle.std.proofs.Common.{◌+◌, ◌∙◌, sym, subst, inl, refl}
use Rattle.frs_base.specs.Identifiers.{database_of}
use Rattle.script_engine.specs.Engines.{Operated}
use Rattle.script_engine.specs.Scene.{in_world}
use Rattle.script_engine.specs.Text.{Operates}
use Rattle.script_engine.proofs.Beginning.{named_held, on_err, operation_begun}
use Rattle.script_engine.proofs.Spoken.{known_said, operation_done, operation_refused, unknown_said, within_held}
use Rattle.script_engine.proofs.engine.Engine.local.Goals as goal

pub returns-in_default-clause-ok : goal.returns-in_default-clause-ok
returns-in_default-clause-ok c = λ s stands.
    unknown_said c.args.self.now s c.args.name.now (λ d said after. Operates s d c.args.operation said after) c.unknown_text.result stands (sym c.place_of.ensures ∙ c.in_default.is) c.unknown_text.ensures

pub operate-requires-clause-within : goal.operate-requires-clause-within
operate-requires-clause-within c = let (s, stands) = c.requires.scene in within_held c.args.self.now s c.args.name.now c.in-Some.at stands (sym c.place_of.ensures ∙ c.in-Some.is)

pub returns-in-Ok-clause-ok : goal.returns-in-Ok-clause-ok
returns-in-Ok-clause-ok c = λ s stands.
    let d = database_of (c.in-Some.at + 1) in
    let (w, operated, on) = c.in_ok-usn.ensures.ok s stands in
    let done = subst (λ o. Operated s.world d c.args.operation o w) c.in-Ok.is operated in
    known_said c.args.self.now s c.args.name.now (λ d said after. Operates s d c.args.operation said after) c.usn_text.result c.in-Some.at _ (in_world s w) c.operate.new.self stands (sym c.place_of.ensures ∙ c.in-Some.is)
    c.usn_text.ensures (operation_done s d c.args.operation c.in-Ok.usn w done) on

pub returns-in-Err-clause-ok : goal.returns-in-Err-clause-ok
returns-in-Err-clause-ok c = λ s stands.
    let d = database_of (c.in-Some.at + 1) in
    let (w, operated, on) = c.in_ok-usn.ensures.ok s stands in
    let refused = subst (λ o. Operated s.world d c.args.operation o w) c.in-Err.is operated in
    known_said c.args.self.now s c.args.name.now (λ d said after. Operates s d c.args.operation said after) c.local_text.result c.in-Some.at _ (in_world s w) c.operate.new.self stands (sym c.place_of.ensures ∙ c.in-Some.is)
    c.local_text.ensures (operation_refused s d c.args.operation c.in-Err.why w refused) on

pub returns-in_default-clause-err : goal.returns-in_default-clause-err
returns-in_default-clause-err c = λ s stands. on_err c.unknown_text.result (s, inl refl, stands)

pub returns-in_err-usn-clause-err : goal.returns-in_err-usn-clause-err
returns-in_err-usn-clause-err c = λ s stands. on_err c.from_residual.result (s, inl refl, c.in_err-usn.ensures.err s stands)

pub returns-in-Ok-clause-err : goal.returns-in-Ok-clause-err
returns-in-Ok-clause-err c = λ s stands.
    let (w, operated, on) = c.in_ok-usn.ensures.ok s stands in
    let named = named_held c.args.self.now s c.args.name.now c.in-Some.at stands (sym c.place_of.ensures ∙ c.in-Some.is) in
    on_err c.usn_text.result (in_world s w, operation_begun s c.args.name.now (database_of (c.in-Some.at + 1)) c.args.operation c.in_ok-usn.field-0 w named operated, on)

pub returns-in-Err-clause-err : goal.returns-in-Err-clause-err
returns-in-Err-clause-err c = λ s stands.
    let (w, operated, on) = c.in_ok-usn.ensures.ok s stands in
    let named = named_held c.args.self.now s c.args.name.now c.in-Some.at stands (sym c.place_of.ensures ∙ c.in-Some.is) in
    on_err c.local_text.result (in_world s w, operation_begun s c.args.name.now (database_of (c.in-Some.at + 1)) c.args.operation c.in_ok-usn.field-0 w named operated, on)
