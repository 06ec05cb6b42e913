use Rattle.std.proofs.Common.{◌≡◌, ◌∙◌, ℕ, true, ap, sym, subst, refl, inl, inr, List, [], Option, Some, None, Result, Ok, Err}
use Rattle.std.specs.Prelude.{MatchBool, unwrap_or}
use Rattle.frs_base.specs.declared.sum.Sum.{Sum}
use Rattle.win_order.specs.declared.update.Update.{Update}
use Rattle.name_rules.specs.Tree.{is_file}
use Rattle.folder_core.specs.declared.refusal.Refusal.{Refusal}
use Rattle.folder_core.specs.Adopt.{ChecksForm, Stages}
use Rattle.folder_core.proofs.machine.adopt.staged_with.Goals as goal

-- the outcome of a check
abbrev Checked : Type 0
Checked = Result (Unit {0}) Refusal

err_is : (a b : Refusal) (x y : Checked) → x ≡ Err a → y ≡ Err b → x ≡ y → a ≡ b
err_is a b x y p q e = cc

err_ok : (a : Refusal) (x : Checked) → x ≡ Err a → x ≡ Ok (tt {0}) → ⊥
err_ok a x p q = cc

-- a refusal is one, whatever is to be taken
refused : {T : Type 0} (form : List ℕ) (want : Sum) (taken : T) (why : Refusal) → ChecksForm form want (tt {0}) (Err why) → ChecksForm form want taken (Err why)
refused form want taken why (inl (at, bad, is)) = inl (at, bad, ap (λ w. Err w) (err_is why _ (Err why) _ refl refl is))
refused form want taken why (inr (contents, local, inl (differs, is))) = inr (contents, local, inl (differs, ap (λ w. Err w) (err_is why _ (Err why) _ refl refl is)))
refused form want taken why (inr (contents, local, inr (same, is))) = absurd (err_ok why (Err why) refl is)

-- what isn't refused is taken
accepted : {T : Type 0} (form : List ℕ) (want : Sum) (taken : T) → ChecksForm form want (tt {0}) (Ok (tt {0})) → ChecksForm form want taken (Ok taken)
accepted form want taken (inl (at, bad, is)) = absurd (err_ok _ (Ok (tt {0})) is refl)
accepted form want taken (inr (contents, local, inl (differs, is))) = absurd (err_ok _ (Ok (tt {0})) is refl)
accepted form want taken (inr (contents, local, inr (same, is))) = inr (contents, local, inr (same, refl))

-- a present file's form is checked
stages : (u : Update) (given : Option (List ℕ)) (bytes : List ℕ) (staged : Result (Option (List ℕ)) Refusal) → is_file u ≡ true → bytes ≡ unwrap_or given [] → ChecksForm bytes u.hash (Some bytes) staged → Stages u given staged
stages u given bytes staged file is checks =
    subst (λ b. MatchBool b (ChecksForm (unwrap_or given []) u.hash (Some (unwrap_or given [])) staged) (staged ≡ Ok None)) (sym file)
    (subst (λ l. ChecksForm l u.hash (Some l) staged) is checks)

pub returns-in-Err-clause-stages : goal.returns-in-Err-clause-stages
returns-in-Err-clause-stages c =
    let file = sym c.is_file.ensures ∙ c.if-not-is_file.false in
    let bytes = c.as_slice.result.now in
    stages c.args.update.now c.args.form bytes _ file (c.as_slice.ensures ∙ c.in_ok-form.ensures)
    (refused bytes c.args.update.now.hash (Some bytes) c.in-Err.why c.in-Err.ensures.checks)

pub returns-in-Ok-clause-stages : goal.returns-in-Ok-clause-stages
returns-in-Ok-clause-stages c =
    let file = sym c.is_file.ensures ∙ c.if-not-is_file.false in
    let bytes = c.in_ok-form.form in
    stages c.args.update.now c.args.form bytes _ file c.in_ok-form.ensures
    (accepted bytes c.args.update.now.hash (Some bytes) (subst (λ l. ChecksForm l c.args.update.now.hash (tt {0}) (Ok (tt {0}))) c.as_slice.ensures c.in-Ok.ensures.checks))
