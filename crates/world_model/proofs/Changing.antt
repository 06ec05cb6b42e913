-- Changing a map at one place.
use Rattle.std.proofs.Common.{◌≡◌, ◌≢◌, ℕ, Bool, true, false, cond, eqb, refl, sym, subst, arith, inl, inr}
use Rattle.std.proofs.lemmas.Bool.{cases_eq}
use Rattle.std.proofs.lemmas.Bool.Decides.{nat_tests}
use Rattle.frs_base.specs.Versions.{same_uid}
use Rattle.frs_base.specs.declared.version.Uid.{Uid}
use Rattle.vol_state.specs.Maps.{with_at}
use Rattle.record_db.specs.Staged.{with_uid}
use Rattle.record_db.proofs.Keys.{same_uid_is, same_uid_refl}

if_true : {X : Type 0} (b : Bool) (x y : X) → b ≡ true → cond b x y ≡ x
if_true true x y e = refl
if_true false x y e = absurd (cc)

if_false : {X : Type 0} (b : Bool) (x y : X) → b ≡ false → cond b x y ≡ y
if_false false x y e = refl
if_false true x y e = absurd (cc)

-- the new value
pub at_same : {X : Type 0} (f : ℕ → X) (k : ℕ) (x : X) → with_at f k x k ≡ x
at_same f k x = if_true (eqb k k) x (f k) (grind (arith, nat_tests))

-- an old one
pub at_other : {X : Type 0} (f : ℕ → X) (k : ℕ) (x : X) (j : ℕ) → j ≢ k → with_at f k x j ≡ f j
at_other f k x j n = if_false (eqb j k) x (f j) (grind (arith, nat_tests, n))

-- what holds of the new one at k and of the old ones elsewhere holds everywhere
pub at_each : {X : Type 0} (P : ℕ → X → Type 0) (f : ℕ → X) (k : ℕ) (x : X) → P k x → ((j : ℕ) → j ≢ k → P j (f j)) → (j : ℕ) → P j (with_at f k x j)
at_each P f k x new old j = elim (cases_eq j k) [
  | inl e ↦ subst (λ i. P i (with_at f k x i)) (sym e) (subst (P k) (sym (at_same f k x)) new)
  | inr n ↦ subst (P j) (sym (at_other f k x j n)) (old j n)
]

-- likewise by file
pub uid_same : {X : Type 0} (f : Uid → X) (k : Uid) (x : X) → with_uid f k x k ≡ x
uid_same f k x = if_true (same_uid k k) x (f k) (same_uid_refl k)

pub uid_other : {X : Type 0} (f : Uid → X) (k : Uid) (x : X) (j : Uid) → j ≢ k → with_uid f k x j ≡ f j
uid_other f k x j n = go (same_uid j k) refl
  where
    go : (t : Bool) → same_uid j k ≡ t → cond t x (f j) ≡ f j
    go true e = absurd (n (same_uid_is j k e))
    go false e = refl
