use Rattle.std.proofs.Common.{◌≡◌, ◌∙◌, ap, sym, subst, refl, true, false}
use Rattle.std.specs.Prelude.{is_some, string_bytes}
use Rattle.frs_base.specs.declared.kind.MemberKind.TheVariants.{Plain}
use Rattle.script_lang.specs.declared.line.Line.TheVariants as lines
use Rattle.script_engine.specs.declared.refusal.Refusal.TheVariants.{Exists}
use Rattle.script_engine.specs.Engines.{Stands}
use Rattle.script_engine.specs.Refusals.{refused_text}
use Rattle.script_engine.specs.Scene.{place_of, with_name, without_name}
use Rattle.script_engine.specs.Text.{Does}
use Rattle.script_engine.proofs.Beginning.{on_err}
use Rattle.script_engine.proofs.Speaking.{does_act, does_refuse, member_known, member_new}
use Rattle.script_engine.proofs.Spoken.{place_is}
use Rattle.script_engine.proofs.engine.Engine.add.Goals as goal

pub returns-then-is_some-clause-ok : goal.returns-then-is_some-clause-ok
returns-then-is_some-clause-ok c = λ s stands.
    let e = c.args.self.now in
    let name = c.args.name.now in
    let kind = c.args.kind in
    let held = sym (place_is e s c.as_slice.result.now stands) ∙ sym c.place_of.ensures in
    let known = subst (λ n. is_some (place_of s.names n) ≡ true) c.as_slice.ensures (ap is_some held ∙ sym c.is_some.ensures ∙ c.if-is_some.true) in
    let said = subst (λ n. string_bytes c.in_ok-text.text ≡ refused_text (Exists n)) c.as_slice-then-is_some.ensures c.in_ok-text.ensures in (
      without_name s,
      subst (λ t. Does s (lines.Member name kind) t (without_name s)) (sym said) (does_refuse s (lines.Member name kind) (Exists name) (member_known s name kind known)),
      subst (λ n. Stands c.take_number.new.self (with_name s n Plain)) (c.of.ensures ∙ c.new.ensures.items) (c.in_ok-take_number.ensures.ok s stands),
    )

pub returns-clause-ok : goal.returns-clause-ok
returns-clause-ok c = λ s stands.
    let e = c.args.self.now in
    let name = c.args.name.now in
    let kind = c.args.kind in
    let held = sym (place_is e s c.as_slice.result.now stands) ∙ sym c.place_of.ensures in
    let free = subst (λ n. is_some (place_of s.names n) ≡ false) c.as_slice.ensures (ap is_some held ∙ sym c.is_some.ensures ∙ c.if-is_some.false) in (
      with_name s name kind,
      subst (λ t. Does s (lines.Member name kind) t (with_name s name kind)) (sym c.in_ok-text-2.ensures) (does_act s (lines.Member name kind) _ (with_name s name kind) (member_new s name kind free) (refl, refl)),
      subst (λ n. Stands c.take_number-2.new.self (with_name s n kind)) c.in_ok-copy_bytes.ensures (c.in_ok-take_number-2.ensures.ok s stands),
    )

pub returns-in_err-take_number-clause-err : goal.returns-in_err-take_number-clause-err
returns-in_err-take_number-clause-err c = λ s stands. on_err _ (c.in_err-take_number.ensures.err s stands)

pub returns-in_err-take_number-2-clause-err : goal.returns-in_err-take_number-2-clause-err
returns-in_err-take_number-2-clause-err c = λ s stands. on_err _ (c.in_err-take_number-2.ensures.err s stands)
