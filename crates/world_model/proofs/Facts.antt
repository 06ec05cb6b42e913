-- Small facts of options, tests and changed maps.
use Rattle.std.proofs.Common.{◌≡◌, ◌≢◌, ℕ, Bool, true, false, sym, ◌∙◌, subst, inl, inr, Some, None}
use Rattle.std.proofs.lemmas.Bool.{cases_eq}
use Rattle.vol_state.specs.Maps.{with_at}
use Rattle.world_model.proofs.Changing.{at_other, at_same}

pub true_false : (b : Bool) → b ≡ true → b ≡ false → ⊥
true_false b p q = cc

pub some_is : {X : Type 0} (x y : X) → Some x ≡ Some y → x ≡ y
some_is x y e = cc

pub none_some : {X : Type 0} (x : X) → None ≡ Some x → ⊥
none_some x e = cc

-- what stands at j of a changed map, by cases
pub at_case : {X : Type 0} (P : Type 0) (f : ℕ → X) (k : ℕ) (x : X) (j : ℕ) (y : X) → with_at f k x j ≡ y → (j ≡ k → x ≡ y → P) → (j ≢ k → f j ≡ y → P) → P
at_case P f k x j y e new old = elim (cases_eq j k) [
  | inl s ↦ new s (sym (at_same f k x) ∙ subst (λ i. with_at f k x i ≡ y) s e)
  | inr n ↦ old n (sym (at_other f k x j n) ∙ e)
]
