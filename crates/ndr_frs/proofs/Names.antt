-- Which units are a name, as a test and as a fact.
use Rattle.std.proofs.Common.{◌≡◌, ℕ, zero, suc, ◌^◌, ◌<◌, ◌&&◌, Bool, true, false, not, leb, ltb, lt-ltb, List, [], ◌∷◌, get_or, length, refl, arith}
use Rattle.std.specs.List.{AllByRecursion}
use Rattle.std.proofs.lemmas.Bool.{leb-true, le-leb, ltb-true, not-true}
use Rattle.frs_base.specs.Names.{IsName, is_barred}
use Rattle.ndr_core.specs.Strings.{HasNoZero, IsText}
use Rattle.ndr_core.proofs.Steps.{both_of}
use Rattle.ndr_frs.specs.Shared.{all_clean, is_name}

and_true : (a b : Bool) → a ≡ true → b ≡ true → (a && b) ≡ true
and_true a b p q = rw (p, q) refl

not_false : (b : Bool) → b ≡ false → not b ≡ true
not_false b e = rw e refl

-- no unit is barred
abbrev Clean : List ℕ → Type 0
Clean units = (k d : ℕ) → k < length units → is_barred (get_or units k d) ≡ false

rest_clean : (u : ℕ) (us : List ℕ) → Clean (u ∷ us) → Clean us
rest_clean u us clean k d lt = clean (suc k) d (omega arith)

clean_true : (units : List ℕ) → Clean units → all_clean units ≡ true
clean_true [] clean = refl
clean_true (u ∷ us) clean = and_true (not (is_barred u)) (all_clean us) (not_false (is_barred u) (clean 0 0 (omega arith))) (clean_true us (rest_clean u us clean))

true_clean : (units : List ℕ) → all_clean units ≡ true → Clean units
true_clean [] e k d lt = absurd (omega arith)
true_clean (u ∷ us) e zero d lt = not-true (is_barred u) (both_of (not (is_barred u)) (all_clean us) e).0
true_clean (u ∷ us) e (suc k) d lt = true_clean us (both_of (not (is_barred u)) (all_clean us) e).1 k d (omega arith)

pub name_true : (units : List ℕ) → IsName units → is_name units ≡ true
name_true units is =
    and_true (ltb 0 (length units) && leb (length units) 255) (all_clean units) (and_true (ltb 0 (length units)) (leb (length units) 255) (lt-ltb _ _ is.some) (le-leb _ _ is.within)) (clean_true units (λ k d lt. is.clean k d lt))

pub true_name : (units : List ℕ) → is_name units ≡ true → IsName units
true_name units e =
    let a = both_of (ltb 0 (length units) && leb (length units) 255) (all_clean units) e in
    let b = both_of (ltb 0 (length units)) (leb (length units) 255) a.0 in
    record { some = ltb-true _ _ b.0; within = leb-true _ _ b.1; clean = λ k d lt. true_clean units a.1 k d lt }

no_name_by : (units : List ℕ) (b : Bool) → is_name units ≡ b → (IsName units → ⊥) → b ≡ false
no_name_by units true e no_name = absurd (no_name (true_name units e))
no_name_by units false e no_name = refl

pub no_name : (units : List ℕ) → (IsName units → ⊥) → is_name units ≡ false
no_name units none = no_name_by units (is_name units) refl none

-- 0 is barred
not_zero : (u : ℕ) → is_barred u ≡ false → 0 < u
not_zero zero e = absurd cc
not_zero (suc u) e = omega arith

no_zero_in : (units : List ℕ) → Clean units → HasNoZero units
no_zero_in [] clean = tt
no_zero_in (u ∷ us) clean = (not_zero u (clean 0 0 (omega arith)), no_zero_in us (rest_clean u us clean))

pub no_zero : (units : List ℕ) → IsName units → HasNoZero units
no_zero units is = no_zero_in units (λ k d lt. is.clean k d lt)

pub name_text : (units : List ℕ) → IsName units → AllByRecursion (λ u. u < 2 ^ 16) units → IsText 256 units
name_text units is small = record { short = omega (arith, is.within); fits = omega (arith, is.within); no_zero = no_zero units is; units = small }
