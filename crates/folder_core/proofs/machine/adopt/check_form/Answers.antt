use Rattle.std.proofs.Common.{◌≡◌, ◌≢◌, ◌∙◌, ℕ, true, ap, sym, refl, inl, inr, arith, eqb, drop, Err}
use Rattle.std.specs.Cmp.Lexicographic.{pointwise}
use Rattle.std.proofs.lemmas.Bool.Decides.{nat_tests}
use Rattle.marshal_form.specs.Local.{local}
use Rattle.marshal_form.proofs.Spelled.{form_spelled}
use Rattle.folder_core.specs.declared.refusal.Refusal.TheVariants.{HashDiffers}
use Rattle.folder_core.specs.Notes.{form_sum}
use Rattle.folder_core.proofs.Finishing.{list_told, lists_told}
use Rattle.folder_core.proofs.machine.adopt.check_form.Goals as goal

nat_told : (x y : ℕ) → eqb x y ≡ true → x ≡ y
nat_told x y e = grind (arith, nat_tests)

nat_same : (x : ℕ) → eqb x x ≡ true
nat_same x = grind (arith, nat_tests)

pub returns-then-eq-clause-checks : goal.returns-then-eq-clause-checks
returns-then-eq-clause-checks c =
    let bytes = sym (ap (λ z. z.0) c.requires) ∙ lists_told eqb nat_told c.args.got.0 c.args.want.0 (sym c.if-eq.ensures) in
    let same : form_sum c.args.form.now ≡ c.args.want = λ i. record { 0 = bytes i } in
    inr (drop 44 c.args.form.now, c.in_default.ensures.form, inr (same, refl))

pub returns-else-eq-clause-checks : goal.returns-else-eq-clause-checks
returns-else-eq-clause-checks c =
    let differs : form_sum c.args.form.now ≢ c.args.want = λ same.
    let bytes : c.args.got.0 ≡ c.args.want.0 = ap (λ z. z.0) (c.requires ∙ same) in
    let yes : pointwise eqb c.args.got.0 c.args.want.0 ≡ true = ap (pointwise eqb c.args.got.0) (sym bytes) ∙ list_told eqb nat_same c.args.got.0 in
    absurd (cc (c.if-eq.ensures ∙ yes)) in
    inr (drop 44 c.args.form.now, c.in_default.ensures.form, inl (differs, ap (λ got. Err (HashDiffers c.args.want got)) c.requires))

pub returns-then-eq-clause-spelled : goal.returns-then-eq-clause-spelled
returns-then-eq-clause-spelled c = form_spelled c.args.form.now local _ (λ i. omega (arith, c.type_inv.form i)) c.in_default.ensures.form
