-- One try after the other.
use Rattle.std.proofs.Common.{◌≡◌, ◌∙◌, ℕ, ◌+◌, ◌<◌, ◌==◌, [], ◌∷◌, ◌++◌, sym, ap, append_assoc, add-one, arith}
use Rattle.std.proofs.lemmas.Bool.{ne_eqb}
use Rattle.credit_gate.specs.declared.view.View.{View}
use Rattle.credit_gate.specs.Rule.{one_if}
use Rattle.credit_gate.specs.Steps.{refused, taken}

-- the view behind so many places that were found taken
abbrev pub after : ℕ → ℕ → View → View
after tried limit v = record {
  places = v.places;
  tried = v.tried ++ taken tried;
  entered = v.entered;
  busy = v.busy + one_if (tried == limit);
  splits = v.splits;
  first = v.first;
}

pub one_more : (place limit last : ℕ) (old v w : View) → place < limit → last ≡ one_if (place + 1 == limit) → v ≡ after place limit old → w ≡ refused last place v → w ≡ after (place + 1) limit old
one_more place limit last old v w lt last_is so_far is =
    let none : one_if (place == limit) ≡ 0 = ap one_if (ne_eqb place limit (λ e. omega arith)) in
    let busy : old.busy + one_if (place == limit) + last ≡ old.busy + one_if (place + 1 == limit) = omega (arith, none, last_is) in
    let tried : (old.tried ++ taken place) ++ (place, 1) ∷ [] ≡ old.tried ++ taken (place + 1) = append_assoc old.tried (taken place) ((place, 1) ∷ []) ∙ ap (λ (n : ℕ). old.tried ++ taken n) (sym (add-one place)) in
    is ∙ ap (refused last place) so_far
    ∙ (λ i. record { places = old.places; tried = tried i; entered = old.entered; busy = busy i; splits = old.splits; first = old.first })
