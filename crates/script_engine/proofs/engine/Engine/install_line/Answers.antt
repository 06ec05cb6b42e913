use Rattle.std.proofs.Common.{◌+◌, ◌∙◌, sym, subst, inl, refl, Ok, Err}
use Rattle.frs_base.specs.Identifiers.{database_of}
use Rattle.script_engine.specs.Named.{AreNamed}
use Rattle.script_engine.specs.Installing.{Installs}
use Rattle.script_engine.specs.Scene.{in_world}
use Rattle.script_engine.specs.Text.{InstallsNext}
use Rattle.script_engine.proofs.Beginning.{named_held, on_err, step_begun}
use Rattle.script_engine.proofs.Spoken.{installed_named, installed_said, known_said, unknown_said, within_held}
use Rattle.script_engine.proofs.engine.Engine.install_line.Goals as goal

pub returns-in_default-clause-ok : goal.returns-in_default-clause-ok
returns-in_default-clause-ok c = λ s stands.
    unknown_said c.args.self.now s c.args.name.now (λ d said after. InstallsNext s c.args.name.now d said after) c.unknown_text.result stands (sym c.place_of.ensures ∙ c.in_default.is) c.unknown_text.ensures

pub install-requires-clause-within : goal.install-requires-clause-within
install-requires-clause-within c = let (s, stands) = c.requires.scene in within_held c.args.self.now s c.args.name.now c.in-Some.at stands (sym c.place_of.ensures ∙ c.in-Some.is)

pub step_text-requires-clause-names : goal.step_text-requires-clause-names
step_text-requires-clause-names c =
    let (s, stands) = c.requires.scene in
    let (w, installs, on) = c.in_ok-step.ensures.ok s stands in
    subst AreNamed (sym c.as_slice.ensures) on.formed

pub refusal_text-requires : goal.refusal_text-requires
refusal_text-requires c =
    let d = database_of (c.in-Some.at + 1) in
    let (s, stands) = c.requires.scene in
    let (w, installs, on) = c.in_ok-step.ensures.ok s stands in
    installed_named s d c.in-Err.refusal w (subst (λ o. Installs s d o w) c.in-Err.is installs)

pub returns-in-Ok-clause-ok : goal.returns-in-Ok-clause-ok
returns-in-Ok-clause-ok c = λ s stands.
    let d = database_of (c.in-Some.at + 1) in
    let (w, installs, on) = c.in_ok-step.ensures.ok s stands in
    let did = subst (λ o. Installs s d o w) c.in-Ok.is installs in
    known_said c.args.self.now s c.args.name.now (λ d said after. InstallsNext s c.args.name.now d said after) c.step_text.result c.in-Some.at _ (in_world s w) c.install.new.self stands
    (sym c.place_of.ensures ∙ c.in-Some.is) (installed_said c.install.new.self s w c.args.name.now (Ok c.in-Ok.step) c.step_text.result _ on c.as_slice.ensures c.step_text.ensures) (Ok c.in-Ok.step, w, did, refl, refl) on

pub returns-in-Err-clause-ok : goal.returns-in-Err-clause-ok
returns-in-Err-clause-ok c = λ s stands.
    let d = database_of (c.in-Some.at + 1) in
    let (w, installs, on) = c.in_ok-step.ensures.ok s stands in
    let refused = subst (λ o. Installs s d o w) c.in-Err.is installs in
    known_said c.args.self.now s c.args.name.now (λ d said after. InstallsNext s c.args.name.now d said after) c.refusal_text.result c.in-Some.at _ (in_world s w) c.install.new.self stands
    (sym c.place_of.ensures ∙ c.in-Some.is) c.refusal_text.ensures (Err c.in-Err.refusal, w, refused, refl, refl) on

pub returns-in_default-clause-err : goal.returns-in_default-clause-err
returns-in_default-clause-err c = λ s stands. on_err c.unknown_text.result (s, inl refl, stands)

pub returns-in_err-step-clause-err : goal.returns-in_err-step-clause-err
returns-in_err-step-clause-err c = λ s stands. on_err c.from_residual.result (s, inl refl, c.in_err-step.ensures.err s stands)

pub returns-in-Ok-clause-err : goal.returns-in-Ok-clause-err
returns-in-Ok-clause-err c = λ s stands.
    let (w, installs, on) = c.in_ok-step.ensures.ok s stands in
    let named = named_held c.args.self.now s c.args.name.now c.in-Some.at stands (sym c.place_of.ensures ∙ c.in-Some.is) in
    on_err c.step_text.result (in_world s w, step_begun s c.args.name.now (database_of (c.in-Some.at + 1)) c.in_ok-step.field-0 w named installs, on)

pub returns-in-Err-clause-err : goal.returns-in-Err-clause-err
returns-in-Err-clause-err c = λ s stands.
    let (w, installs, on) = c.in_ok-step.ensures.ok s stands in
    let named = named_held c.args.self.now s c.args.name.now c.in-Some.at stands (sym c.place_of.ensures ∙ c.in-Some.is) in
    on_err c.refusal_text.result (in_world s w, step_begun s c.args.name.now (database_of (c.in-Some.at + 1)) c.in_ok-step.field-0 w named installs, on)
