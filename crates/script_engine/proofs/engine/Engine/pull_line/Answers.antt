use Rattle.std.proofs.Common.{◌≡◌, ◌+◌, ◌∙◌, sym, subst, true, false, bytes_eq, inl, inr, refl}
use Rattle.frs_base.specs.Identifiers.{database_of}
use Rattle.script_lang.specs.declared.line.Line.TheVariants.{Pull}
use Rattle.script_engine.specs.Engines.{Stands}
use Rattle.script_engine.specs.Pulls.{PullEnds}
use Rattle.script_engine.specs.Scene.{Scene}
use Rattle.script_engine.specs.Text.{Does}
use Rattle.script_engine.proofs.Beginning.{ended_begun, named_held, on_err, pull_line_begun}
use Rattle.script_engine.proofs.Speaking.{acted_said, does_refuse, pull_cut, pull_done, pull_first, pull_from_none, pull_itself, pull_none, refused_said}
use Rattle.script_engine.proofs.Spoken.{place_is, within_held}
use Rattle.script_engine.proofs.Texts.{said_of}
use Rattle.script_engine.proofs.Whole.{pull_nameless}
use Rattle.script_engine.proofs.engine.Engine.pull_line.Goals as goal

pub returns-in_default-clause-ok : goal.returns-in_default-clause-ok
returns-in_default-clause-ok c = λ s stands.
    let none = sym (place_is c.args.self.now s c.args.name.now stands) ∙ sym c.place_of.ensures ∙ c.in_default.is in
    refused_said c.args.self.now s (Pull c.args.name.now c.args.other.now) _ c.unknown_text.result stands (pull_none s c.args.name.now c.args.other.now none) c.unknown_text.ensures

pub returns-in_default-place_of-clause-ok : goal.returns-in_default-place_of-clause-ok
returns-in_default-place_of-clause-ok c = λ s stands.
    let some = sym (place_is c.args.self.now s c.args.name.now stands) ∙ sym c.place_of.ensures ∙ c.in-Some.is in
    let none = sym (place_is c.args.self.now s c.args.other.now stands) ∙ sym c.place_of-2.ensures ∙ c.in_default-place_of.is in
    refused_said c.args.self.now s (Pull c.args.name.now c.args.other.now) _ c.unknown_text-in_default-place_of.result stands (pull_from_none s c.args.name.now c.args.other.now c.in-Some.at some none) c.unknown_text-in_default-place_of.ensures

pub returns-then-eq-clause-ok : goal.returns-then-eq-clause-ok
returns-then-eq-clause-ok c = λ s stands.
    let some = sym (place_is c.args.self.now s c.args.name.now stands) ∙ sym c.place_of.ensures ∙ c.in-Some.is in
    let other = sym (place_is c.args.self.now s c.args.other.now stands) ∙ sym c.place_of-2.ensures ∙ c.in-Some-place_of.is in
    let same : bytes_eq c.args.name.now c.args.other.now ≡ true = sym c.eq.ensures ∙ c.if-eq.true in
    said_of c.refusal_text.result _ (λ text. (new : Scene) × Does s (Pull c.args.name.now c.args.other.now) text new × Stands _ new) c.refusal_text.ensures
    (s, does_refuse s (Pull c.args.name.now c.args.other.now) _ (pull_itself s c.args.name.now c.args.other.now c.in-Some.at c.in-Some-place_of.from some other same), stands)

pub pull-requires-clause-within : goal.pull-requires-clause-within
pull-requires-clause-within c = let (s, stands) = c.requires.scene in within_held c.args.self.now s c.args.name.now c.in-Some.at stands (sym c.place_of.ensures ∙ c.in-Some.is)

pub pull-requires-clause-there : goal.pull-requires-clause-there
pull-requires-clause-there c = let (s, stands) = c.requires.scene in within_held c.args.self.now s c.args.other.now c.in-Some-place_of.from stands (sym c.place_of-2.ensures ∙ c.in-Some-place_of.is)

pub refusal_text-requires-in-Err : goal.refusal_text-requires-in-Err
refusal_text-requires-in-Err c =
    let p = database_of (c.in-Some.at + 1) in
    let e = database_of (c.in-Some-place_of.from + 1) in
    let (s, stands) = c.requires.scene in
    let (new, ended, on) = c.in_ok-taken.ensures.ok s stands in
    let (taken, pulls) = subst (λ o. PullEnds s p e o new) c.in-Err.is ended in
    pull_nameless s p e taken c.in-Err.refusal new pulls

pub returns-in-Ok-clause-ok : goal.returns-in-Ok-clause-ok
returns-in-Ok-clause-ok c = λ s stands.
    let p = database_of (c.in-Some.at + 1) in
    let e = database_of (c.in-Some-place_of.from + 1) in
    let some = sym (place_is c.args.self.now s c.args.name.now stands) ∙ sym c.place_of.ensures ∙ c.in-Some.is in
    let other = sym (place_is c.args.self.now s c.args.other.now stands) ∙ sym c.place_of-2.ensures ∙ c.in-Some-place_of.is in
    let apart : bytes_eq c.args.name.now c.args.other.now ≡ false = sym c.eq.ensures ∙ c.if-eq.false in
    let (new, ended, on) = c.in_ok-taken.ensures.ok s stands in
    let pulls = subst (λ o. PullEnds s p e o new) c.in-Ok.is ended in
    acted_said s (Pull c.args.name.now c.args.other.now) c.pulled_text.result _ new c.pull.new.self (pull_first s c.args.name.now c.args.other.now c.in-Some.at c.in-Some-place_of.from some other apart) c.pulled_text.ensures
    (pull_done s c.args.name.now c.args.other.now c.in-Some.at c.in-Some-place_of.from c.in-Ok.taken new some other pulls) on

pub returns-in-Err-clause-ok : goal.returns-in-Err-clause-ok
returns-in-Err-clause-ok c = λ s stands.
    let p = database_of (c.in-Some.at + 1) in
    let e = database_of (c.in-Some-place_of.from + 1) in
    let some = sym (place_is c.args.self.now s c.args.name.now stands) ∙ sym c.place_of.ensures ∙ c.in-Some.is in
    let other = sym (place_is c.args.self.now s c.args.other.now stands) ∙ sym c.place_of-2.ensures ∙ c.in-Some-place_of.is in
    let apart : bytes_eq c.args.name.now c.args.other.now ≡ false = sym c.eq.ensures ∙ c.if-eq.false in
    let (new, ended, on) = c.in_ok-taken.ensures.ok s stands in
    let pulls = subst (λ o. PullEnds s p e o new) c.in-Err.is ended in
    acted_said s (Pull c.args.name.now c.args.other.now) c.refusal_text-in-Err.result _ new c.pull.new.self (pull_first s c.args.name.now c.args.other.now c.in-Some.at c.in-Some-place_of.from some other apart) c.refusal_text-in-Err.ensures
    (pull_cut s c.args.name.now c.args.other.now c.in-Some.at c.in-Some-place_of.from c.in-Err.refusal new some other pulls) on

pub returns-in_default-clause-err : goal.returns-in_default-clause-err
returns-in_default-clause-err c = λ s stands. on_err c.unknown_text.result (s, inl refl, stands)

pub returns-in_default-place_of-clause-err : goal.returns-in_default-place_of-clause-err
returns-in_default-place_of-clause-err c = λ s stands. on_err c.unknown_text-in_default-place_of.result (s, inl refl, stands)

pub returns-then-eq-clause-err : goal.returns-then-eq-clause-err
returns-then-eq-clause-err c = λ s stands. on_err c.refusal_text.result (s, inl refl, stands)

pub returns-in_err-taken-clause-err : goal.returns-in_err-taken-clause-err
returns-in_err-taken-clause-err c = λ s stands.
    let p = database_of (c.in-Some.at + 1) in
    let e = database_of (c.in-Some-place_of.from + 1) in
    let named = named_held c.args.self.now s c.args.name.now c.in-Some.at stands (sym c.place_of.ensures ∙ c.in-Some.is) in
    let there = named_held c.args.self.now s c.args.other.now c.in-Some-place_of.from stands (sym c.place_of-2.ensures ∙ c.in-Some-place_of.is) in
    let apart : bytes_eq c.args.name.now c.args.other.now ≡ false = sym c.eq.ensures ∙ c.if-eq.false in
    let (new, begun, on) = c.in_err-taken.ensures.err s stands in
    on_err c.from_residual.result (new, pull_line_begun s c.args.name.now c.args.other.now p e new named there apart begun, on)

pub returns-in-Ok-clause-err : goal.returns-in-Ok-clause-err
returns-in-Ok-clause-err c = λ s stands.
    let p = database_of (c.in-Some.at + 1) in
    let e = database_of (c.in-Some-place_of.from + 1) in
    let named = named_held c.args.self.now s c.args.name.now c.in-Some.at stands (sym c.place_of.ensures ∙ c.in-Some.is) in
    let there = named_held c.args.self.now s c.args.other.now c.in-Some-place_of.from stands (sym c.place_of-2.ensures ∙ c.in-Some-place_of.is) in
    let apart : bytes_eq c.args.name.now c.args.other.now ≡ false = sym c.eq.ensures ∙ c.if-eq.false in
    let (new, ended, on) = c.in_ok-taken.ensures.ok s stands in
    on_err c.pulled_text.result (new, pull_line_begun s c.args.name.now c.args.other.now p e new named there apart (inr (ended_begun s p e c.in_ok-taken.field-0 new ended)), on)

pub returns-in-Err-clause-err : goal.returns-in-Err-clause-err
returns-in-Err-clause-err c = λ s stands.
    let p = database_of (c.in-Some.at + 1) in
    let e = database_of (c.in-Some-place_of.from + 1) in
    let named = named_held c.args.self.now s c.args.name.now c.in-Some.at stands (sym c.place_of.ensures ∙ c.in-Some.is) in
    let there = named_held c.args.self.now s c.args.other.now c.in-Some-place_of.from stands (sym c.place_of-2.ensures ∙ c.in-Some-place_of.is) in
    let apart : bytes_eq c.args.name.now c.args.other.now ≡ false = sym c.eq.ensures ∙ c.if-eq.false in
    let (new, ended, on) = c.in_ok-taken.ensures.ok s stands in
    on_err c.refusal_text-in-Err.result (new, pull_line_begun s c.args.name.now c.args.other.now p e new named there apart (inr (ended_begun s p e c.in_ok-taken.field-0 new ended)), on)
