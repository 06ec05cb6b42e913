-- Climbing from object to object.
use Rattle.std.proofs.Common.{◌≡◌, ◌≢◌, ◌≤◌, ◌||◌, ◌⊎◌, ⊎_elim, ℕ, zero, suc, Bool, true, false, eqb, List, Option, Some, None, refl, sym, ap, ◌∙◌, subst, arith}
use Rattle.std.proofs.lemmas.Bool.Decides.{nat_tests, eqb_tells}
use Rattle.vol_state.specs.declared.object.Object.{Object}
use Rattle.vol_state.specs.Places.{above, is_under, ends_in}
use Rattle.frs_base.specs.Options.{some_is, none_or}
use Rattle.vol_state.specs.Tree.{Ends}

pub by_cases : {A B C : Type 0} → A ⊎ B → (A → C) → (B → C) → C
by_cases s f g = ⊎_elim f g s

pub differ : (a b : ℕ) → a ≢ b → eqb a b ≡ false
differ a b n = grind (arith, nat_tests)

-- one step up
pub climbed : (objects : List Object) (m n top at up : ℕ) → m ≡ suc n → at ≢ top → above objects at ≡ Some up → is_under objects n top up ≡ is_under objects m top at
climbed objects m n top at up is differs is_up =
    sym (ap (λ k. is_under objects k top at) is
    ∙ ap (λ b. b || some_is (is_under objects n top) (above objects at)) (differ at top differs)
    ∙ ap (some_is (is_under objects n top)) is_up)

-- the same steps but for those from one object
abbrev pub Agree : List Object → List Object → ℕ → Type 0
Agree old new fid = (x : ℕ) → x ≢ fid → above new x ≡ above old x

ends_up : (new : List Object) (x : ℕ) (u : Option ℕ) → above new x ≡ u → ((p : ℕ) → u ≡ Some p → Ends new p) → Ends new x
ends_up new x None e more = (1, ap (none_or (ends_in new 0)) e)
ends_up new x (Some p) e more = let r = more p refl in (suc r.0, ap (none_or (ends_in new r.0)) e ∙ r.1)

pub above_ends : (old : List Object) (n x p : ℕ) → ends_in old (suc n) x ≡ true → above old x ≡ Some p → ends_in old n p ≡ true
above_ends old n x p e u = sym (ap (none_or (ends_in old n)) u) ∙ e

-- where the climb from the changed object comes to an end, each one does
pub ends_agree : (old new : List Object) (fid : ℕ) → Agree old new fid → Ends new fid → (n x : ℕ) → ends_in old n x ≡ true → Ends new x
ends_agree old new fid same end zero x e = absurd (cc)
ends_agree old new fid same end (suc n) x e =
    by_cases (eqb_tells x fid)
    (λ t. subst (Ends new) (sym t.1) end)
    (λ t. ends_up new x (above old x) (same x t.1) (λ p u. ends_agree old new fid same end n p (above_ends old n x p e u)))

-- whether it is under, step by step
not_here : (objects : List Object) (m top x : ℕ) → is_under objects m top x ≡ false → eqb x top ≡ false
not_here objects zero top x e = e
not_here objects (suc m) top x e = go (eqb x top) refl e
  where
    go : (b : Bool) → eqb x top ≡ b → (b || some_is (is_under objects m top) (above objects x)) ≡ false → eqb x top ≡ false
    go true h f = absurd (cc)
    go false h f = h

pub not_above : (objects : List Object) (m top x p : ℕ) → is_under objects (suc m) top x ≡ false → above objects x ≡ Some p → is_under objects m top p ≡ false
not_above objects m top x p e u =
    ap (some_is (is_under objects m top)) (sym u) ∙ sym (ap (λ b. b || some_is (is_under objects m top) (above objects x)) (not_here objects (suc m) top x e)) ∙ e

pub apart_from : (objects : List Object) (m top x : ℕ) → is_under objects m top x ≡ false → x ≢ top
apart_from objects m top x e same = let h = not_here objects m top x e in grind (arith, nat_tests)

-- a climb that doesn't meet the changed object is as it was
pub avoids_in : (old new : List Object) (fid : ℕ) → Agree old new fid → (n m x : ℕ) → is_under old m fid x ≡ false → ends_in old n x ≡ true → n ≤ suc m → ends_in new n x ≡ true
avoids_in old new fid same zero m x off e le = absurd (cc)
avoids_in old new fid same (suc n) m x off e le =
    go (above old x) refl (λ q a. further n m q le off a (above_ends old n x q e a) (avoids_in old new fid same n))
  where
    go : (a : Option ℕ) → above old x ≡ a → ((q : ℕ) → above old x ≡ Some q → ends_in new n q ≡ true) → ends_in new (suc n) x ≡ true
    go None a more = ap (none_or (ends_in new n)) (same x (apart_from old m fid x off) ∙ a)
    go (Some q) a more = ap (none_or (ends_in new n)) (same x (apart_from old m fid x off) ∙ a) ∙ more q a

    further : (n m q : ℕ) → suc n ≤ suc m → is_under old m fid x ≡ false → above old x ≡ Some q → ends_in old n q ≡ true
        → ((m y : ℕ) → is_under old m fid y ≡ false → ends_in old n y ≡ true → n ≤ suc m → ends_in new n y ≡ true) → ends_in new n q ≡ true
    further zero m q le off a e more = absurd (cc)
    further (suc n) zero q le off a e more = absurd (omega (arith, le))
    further (suc n) (suc m) q le off a e more = more m q (not_above old m fid x q off a) e (omega (arith, le))
