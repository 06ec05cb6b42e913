-- No climb is longer than the list of objects.
use Rattle.std.proofs.Common.{◌≡◌, ◌≤◌, ◌||◌, ℕ, zero, suc, Bool, true, false, List, [], ◌∷◌, length, Option, Some, None, refl, sym, ap, ◌∙◌, subst, arith}
use Rattle.std.proofs.lemmas.Bool.Decides.{eqb_tells}
use Rattle.vol_state.specs.declared.object.Object.{Object}
use Rattle.vol_state.specs.Places.{object_at, above, above_it, is_under, ends_in}
use Rattle.frs_base.specs.Options.{some_is, none_or}
use Rattle.vol_state.specs.Effects.{without}
use Rattle.vol_state.proofs.Climbing.{by_cases, Agree, above_ends, not_above, apart_from, avoids_in}
use Rattle.vol_state.proofs.Finding.{at_without_other, length_without}

-- where a climb meets top, the one from top on is no longer
shorter : (objects : List Object) (j n top p : ℕ) → is_under objects j top p ≡ true → ends_in objects n p ≡ true → (m : ℕ) × (m ≤ n) × (ends_in objects m top ≡ true)
shorter objects j zero top p u e = absurd (cc)
shorter objects zero (suc n) top p u e =
    by_cases (eqb_tells p top)
    (λ t. let P : ℕ → Type 0 = λ y. ends_in objects (suc n) y ≡ true in (suc n, omega arith, subst P t.1 e))
    (λ t. absurd (cc))
shorter objects (suc j) (suc n) top p u e =
    by_cases (eqb_tells p top)
    (λ t. let P : ℕ → Type 0 = λ y. ends_in objects (suc n) y ≡ true in (suc n, omega arith, subst P t.1 e))
    (λ t. further (above objects p) refl (sym (ap (λ b. b || some_is (is_under objects j top) (above objects p)) t.0) ∙ u) (λ q a s. shorter objects j n top q s (above_ends objects n p q e a)))
  where
    further : (a : Option ℕ) → above objects p ≡ a → some_is (is_under objects j top) (above objects p) ≡ true
        → ((q : ℕ) → above objects p ≡ Some q → is_under objects j top q ≡ true → (m : ℕ) × (m ≤ n) × (ends_in objects m top ≡ true))
        → (m : ℕ) × (m ≤ suc n) × (ends_in objects m top ≡ true)
    further None a s more = absurd (cc)
    further (Some q) a s more = let r = more q a (ap (some_is (is_under objects j top)) (sym a) ∙ s) in (r.0, omega (arith, r.1), r.2)

abbrev pub Bounded : ℕ → List Object → ℕ → Type 0
Bounded k objects x = (m : ℕ) × (m ≤ suc k) × (ends_in objects m x ≡ true)

-- a climb that avoids fid, in the list without it and in the whole
back : (old new : List Object) (fid : ℕ) → Agree old new fid → (m n x : ℕ) → is_under old n fid x ≡ false → ends_in old n x ≡ true → ends_in new m x ≡ true → ends_in old m x ≡ true
back old new fid same zero n x off e f = absurd (cc)
back old new fid same (suc m) zero x off e f = absurd (cc)
back old new fid same (suc m) (suc n) x off e f =
    go (above old x) refl (λ q a. back old new fid same m n q (not_above old n fid x q off a) (above_ends old n x q e a) (above_ends new m x q f (same x (apart_from old (suc n) fid x off) ∙ a)))
  where
    go : (a : Option ℕ) → above old x ≡ a → ((q : ℕ) → above old x ≡ Some q → ends_in old m q ≡ true) → ends_in old (suc m) x ≡ true
    go None a more = ap (none_or (ends_in old m)) a
    go (Some q) a more = ap (none_or (ends_in old m)) a ∙ more q a

there_of : (objects : List Object) (x p : ℕ) → above objects x ≡ Some p → (o : Object) × (object_at objects x ≡ Some o)
there_of objects x p e = go (object_at objects x) refl e
  where
    go : (f : Option Object) → object_at objects x ≡ f → above_it f ≡ Some p → (o : Object) × (object_at objects x ≡ Some o)
    go None h e = absurd (cc)
    go (Some o) h e = (o, h)

abbrev pub Shorts : ℕ → Type 0
Shorts k = (objects : List Object) → length objects ≤ k → (n x : ℕ) → ends_in objects n x ≡ true → Bounded k objects x

longer : (k : ℕ) → Shorts k → (objects : List Object) → length objects ≤ suc k → (most n x : ℕ) → n ≤ most → ends_in objects n x ≡ true → Bounded (suc k) objects x
longer k short objects le most zero x l e = absurd (cc)
longer k short objects le zero (suc n) x l e = absurd (omega (arith, l))
longer k short objects le (suc most) (suc n) x l e =
    first (above objects x) refl (λ p a. second p a (is_under objects n x p) refl (λ m w f. longer k short objects le most m x (omega (arith, w, l)) f))
  where
    first : (a : Option ℕ) → above objects x ≡ a → ((p : ℕ) → above objects x ≡ Some p → Bounded (suc k) objects x) → Bounded (suc k) objects x
    first None a more = (1, omega arith, ap (none_or (ends_in objects 0)) a)
    first (Some p) a more = more p a

    second : (p : ℕ) → above objects x ≡ Some p → (b : Bool) → is_under objects n x p ≡ b → ((m : ℕ) → m ≤ n → ends_in objects m x ≡ true → Bounded (suc k) objects x) → Bounded (suc k) objects x
    second p a true u more = let r = shorter objects n n x p u (above_ends objects n x p e a) in more r.0 r.1 r.2
    second p a false u more =
        let rest = without x objects in
        let same : Agree objects rest x = λ y d. ap above_it (at_without_other x y d objects) in
        let o = there_of objects x p a in
        let fewer : length rest ≤ k = omega (arith, length_without x o.0 objects o.1, le) in
        let up : ends_in objects n p ≡ true = above_ends objects n x p e a in
        let r = short rest fewer n p (avoids_in objects rest x same n n p u up (omega arith)) in
        (suc r.0, omega (arith, r.1), ap (none_or (ends_in objects r.0)) a ∙ back objects rest x same r.0 n p u up r.2)

shorts : (k : ℕ) → Shorts k
shorts zero [] le zero x e = absurd (cc)
shorts zero [] le (suc n) x e = (1, omega arith, refl)
shorts zero (o ∷ os) le n x e = absurd (omega (arith, le))
shorts (suc k) objects le n x e = longer k (shorts k) objects le n n x (omega arith) e

-- a climb that ends at all ends in as many steps as there are objects, and one
pub bounded : (objects : List Object) (n x : ℕ) → ends_in objects n x ≡ true → Bounded (length objects) objects x
bounded objects n x e = shorts (length objects) objects (omega arith) n x e
