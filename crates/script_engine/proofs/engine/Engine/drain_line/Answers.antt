use Rattle.std.proofs.Common.{◌+◌, ◌∙◌, sym, subst, inl, inr, refl}
use Rattle.frs_base.specs.Identifiers.{database_of}
use Rattle.script_engine.specs.Engines.{DrainedBy}
use Rattle.script_engine.specs.Scene.{in_world}
use Rattle.script_engine.specs.Text.{DrainsAll}
use Rattle.script_engine.proofs.Beginning.{drained_begun, named_held, on_err}
use Rattle.script_engine.proofs.Spoken.{drained_cut, drained_done, drained_named, known_said, unknown_said, within_held}
use Rattle.script_engine.proofs.engine.Engine.drain_line.Goals as goal

pub returns-in_default-clause-ok : goal.returns-in_default-clause-ok
returns-in_default-clause-ok c = λ s stands.
    unknown_said c.args.self.now s c.args.name.now (λ d said after. DrainsAll s d said after) c.unknown_text.result stands (sym c.place_of.ensures ∙ c.in_default.is) c.unknown_text.ensures

pub drain-requires-clause-within : goal.drain-requires-clause-within
drain-requires-clause-within c = let (s, stands) = c.requires.scene in within_held c.args.self.now s c.args.name.now c.in-Some.at stands (sym c.place_of.ensures ∙ c.in-Some.is)

pub refusal_text-requires : goal.refusal_text-requires
refusal_text-requires c =
    let d = database_of (c.in-Some.at + 1) in
    let (s, stands) = c.requires.scene in
    let (w, drained, on) = c.in_ok-steps.ensures.ok s stands in
    drained_named s d c.in-Err.refusal w (subst (λ o. DrainedBy s d o w) c.in-Err.is drained)

pub returns-in-Ok-clause-ok : goal.returns-in-Ok-clause-ok
returns-in-Ok-clause-ok c = λ s stands.
    let d = database_of (c.in-Some.at + 1) in
    let (w, drained, on) = c.in_ok-steps.ensures.ok s stands in
    let done = subst (λ o. DrainedBy s d o w) c.in-Ok.is drained in
    known_said c.args.self.now s c.args.name.now (λ d said after. DrainsAll s d said after) c.drained_text.result c.in-Some.at _ (in_world s w) c.drain.new.self stands
    (sym c.place_of.ensures ∙ c.in-Some.is) c.drained_text.ensures (drained_done s d c.in-Ok.steps w done) on

pub returns-in-Err-clause-ok : goal.returns-in-Err-clause-ok
returns-in-Err-clause-ok c = λ s stands.
    let d = database_of (c.in-Some.at + 1) in
    let (w, drained, on) = c.in_ok-steps.ensures.ok s stands in
    let refused = subst (λ o. DrainedBy s d o w) c.in-Err.is drained in
    known_said c.args.self.now s c.args.name.now (λ d said after. DrainsAll s d said after) c.refusal_text.result c.in-Some.at _ (in_world s w) c.drain.new.self stands
    (sym c.place_of.ensures ∙ c.in-Some.is) c.refusal_text.ensures (drained_cut s d c.in-Err.refusal w refused) on

pub returns-in_default-clause-err : goal.returns-in_default-clause-err
returns-in_default-clause-err c = λ s stands. on_err c.unknown_text.result (s, inl refl, stands)

pub returns-in_err-steps-clause-err : goal.returns-in_err-steps-clause-err
returns-in_err-steps-clause-err c = λ s stands.
    let (w, steps, some, on) = c.in_err-steps.ensures.err s stands in
    let named = named_held c.args.self.now s c.args.name.now c.in-Some.at stands (sym c.place_of.ensures ∙ c.in-Some.is) in
    on_err c.from_residual.result (in_world s w, inr (database_of (c.in-Some.at + 1), w, named, (steps, some), refl), on)

pub returns-in-Ok-clause-err : goal.returns-in-Ok-clause-err
returns-in-Ok-clause-err c = λ s stands.
    let (w, drained, on) = c.in_ok-steps.ensures.ok s stands in
    let named = named_held c.args.self.now s c.args.name.now c.in-Some.at stands (sym c.place_of.ensures ∙ c.in-Some.is) in
    on_err c.drained_text.result (in_world s w, drained_begun s c.args.name.now (database_of (c.in-Some.at + 1)) c.in_ok-steps.field-0 w named drained, on)

pub returns-in-Err-clause-err : goal.returns-in-Err-clause-err
returns-in-Err-clause-err c = λ s stands.
    let (w, drained, on) = c.in_ok-steps.ensures.ok s stands in
    let named = named_held c.args.self.now s c.args.name.now c.in-Some.at stands (sym c.place_of.ensures ∙ c.in-Some.is) in
    on_err c.refusal_text.result (in_world s w, drained_begun s c.args.name.now (database_of (c.in-Some.at + 1)) c.in_ok-steps.field-0 w named drained, on)
