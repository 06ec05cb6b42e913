-- Sums over views, and how often a place stands in a list.
use Rattle.std.proofs.Common.{◌≡◌, ℕ, zero, suc, ◌+◌, ◌<◌, ◌≤◌, ◌==◌, Bool, true, false, List, [], ◌∷◌, ◌++◌, length, refl, sym, ap, set, arith, cond}
use mathlib.Core.Option.{some, some-ne-none, some-injective}
use lib.ListN.{get_elem?}
use Rattle.std.proofs.lemmas.Bool.{eqb-true, eq-eqb, ne_eqb}
use Rattle.credit_gate.specs.declared.view.View.{View}
use Rattle.credit_gate.specs.Rule.{Below, one_if, times, total}
use Rattle.credit_gate.specs.Steps.{without}

-- a view is changed
pub total_set : (f : View → ℕ) (views : List View) (id : ℕ) (v w : View) → get_elem? views id ≡ some v → total f (set views id w) + f v ≡ total f views + f w
total_set f [] id v w at = absurd (some-ne-none v (sym at))
total_set f (x ∷ xs) zero v w at = let e : f x ≡ f v = ap f (some-injective _ _ at) in omega (arith, e)
total_set f (x ∷ xs) (suc id) v w at = let h = total_set f xs id v w at in omega (arith, h)

-- a view comes last
pub total_snoc : (f : View → ℕ) (views : List View) (w : View) → total f (views ++ w ∷ []) ≡ total f views + f w
total_snoc f [] w = omega arith
total_snoc f (x ∷ xs) w = let h = total_snoc f xs w in omega (arith, h)

-- one view is no more than all
pub total_least : (f : View → ℕ) (views : List View) (id : ℕ) (v : View) → get_elem? views id ≡ some v → f v ≤ total f views
total_least f [] id v at = absurd (some-ne-none v (sym at))
total_least f (x ∷ xs) zero v at = let e : f x ≡ f v = ap f (some-injective _ _ at) in omega (arith, e)
total_least f (x ∷ xs) (suc id) v at = let h = total_least f xs id v at in omega (arith, h)

-- and is all where it is the only one
pub total_only : (f : View → ℕ) (views : List View) (id : ℕ) (v : View) → length views ≡ 1 → get_elem? views id ≡ some v → total f views ≡ f v
total_only f [] id v one at = absurd (omega arith)
total_only f (x ∷ []) zero v one at = let e : f x ≡ f v = ap f (some-injective _ _ at) in omega (arith, e)
total_only f (x ∷ []) (suc id) v one at = absurd (some-ne-none v (sym at))
total_only f (x ∷ y ∷ xs) id v one at = absurd (omega arith)

pub times_append : (i : ℕ) (xs ys : List ℕ) → times i (xs ++ ys) ≡ times i xs + times i ys
times_append i [] ys = omega arith
times_append i (x ∷ xs) ys = let h = times_append i xs ys in omega (arith, h)

one_is : (b : Bool) → b ≡ true → one_if b ≡ 1
one_is b e = rw e refl

none_is : (b : Bool) → b ≡ false → one_if b ≡ 0
none_is b e = rw e refl

pub one_at : (place i : ℕ) → place ≡ i → one_if (place == i) ≡ 1
one_at place i e = one_is (place == i) (eq-eqb place i e)

pub none_at : (place i : ℕ) → (place ≡ i → ⊥) → one_if (place == i) ≡ 0
none_at place i e = none_is (place == i) (ne_eqb place i e)

without_by : (i place x : ℕ) (xs rest : List ℕ) (b : Bool) → (x == place) ≡ b → (b ≡ false → times i rest + one_if (place == i) ≡ times i xs) → times i (cond b xs (x ∷ rest)) + one_if (place == i) ≡ one_if (x == i) + times i xs
without_by i place x xs rest true e later = let same : one_if (place == i) ≡ one_if (x == i) = ap (λ (p : ℕ). one_if (p == i)) (sym (eqb-true x place e)) in omega (arith, same)
without_by i place x xs rest false e later = omega (arith, later refl)

-- without one that is left
pub times_without : (i place : ℕ) (xs : List ℕ) → 0 < times place xs → times i (without place xs) + one_if (place == i) ≡ times i xs
times_without i place [] has = absurd (omega arith)
times_without i place (x ∷ xs) has = without_by i place x xs (without place xs) (x == place) refl (λ apart. times_without i place xs (omega (arith, has, none_is (x == place) apart)))

-- ---- places below a count

pub below_more : (count place : ℕ) (xs : List ℕ) → place < count → Below count xs → Below count (xs ++ place ∷ [])
below_more count place xs lt below i has = by (place == i) refl
  where
    by : (b : Bool) → (place == i) ≡ b → i < count
    by true e = omega (arith, eqb-true place i e, lt)
    by false e = below i (omega (arith, has, times_append i xs (place ∷ []), none_is (place == i) e))

pub below_fewer : (count place : ℕ) (xs : List ℕ) → 0 < times place xs → Below count xs → Below count (without place xs)
below_fewer count place xs left below i has = below i (omega (arith, has, times_without i place xs left))

pub below_both : (count : ℕ) (xs ys : List ℕ) → Below count xs → Below count ys → Below count (xs ++ ys)
below_both count xs ys first second i has = by (times i xs) refl
  where
    by : (n : ℕ) → times i xs ≡ n → i < count
    by zero e = second i (omega (arith, has, times_append i xs ys, e))
    by (suc n) e = first i (omega (arith, e))

-- ---- as many places as there are

-- f 0 + .. up to n
abbrev sum_to : ℕ → (ℕ → ℕ) → ℕ
sum_to zero f = 0
sum_to (suc n) f = sum_to n f + f n

sum_zero : (n : ℕ) (f : ℕ → ℕ) → ((i : ℕ) → i < n → f i ≡ 0) → sum_to n f ≡ 0
sum_zero zero f each = refl
sum_zero (suc n) f each = omega (arith, sum_zero n f (λ i lt. each i (omega arith)), each n (omega arith))

one_by : (n x : ℕ) (b : Bool) → (x == n) ≡ b → sum_to n (λ i. one_if (x == i)) ≤ 1 → sum_to n (λ i. one_if (x == i)) + one_if (x == n) ≤ 1
one_by n x true e before =
    let is : x ≡ n = eqb-true x n e in
    let others = sum_zero n (λ i. one_if (x == i)) (λ i lt. none_at x i (λ same. omega (arith, same, is, lt))) in
    omega (arith, others, one_is (x == n) e)
one_by n x false e before = omega (arith, before, none_is (x == n) e)

sum_one : (n x : ℕ) → sum_to n (λ i. one_if (x == i)) ≤ 1
sum_one zero x = omega arith
sum_one (suc n) x = one_by n x (x == n) refl (sum_one n x)

sum_split : (n : ℕ) (f g : ℕ → ℕ) → sum_to n (λ i. f i + g i) ≡ sum_to n f + sum_to n g
sum_split zero f g = refl
sum_split (suc n) f g = omega (arith, sum_split n f g)

sum_times : (n : ℕ) (xs : List ℕ) → sum_to n (λ i. times i xs) ≤ length xs
sum_times n [] = omega (arith, sum_zero n (λ i. times i []) (λ i lt. refl))
sum_times n (x ∷ xs) = omega (arith, sum_split n (λ i. one_if (x == i)) (λ i. times i xs), sum_one n x, sum_times n xs)

sum_least : (n : ℕ) (f : ℕ → ℕ) → ((i : ℕ) → i < n → 0 < f i) → n ≤ sum_to n f
sum_least zero f each = omega arith
sum_least (suc n) f each = omega (arith, sum_least n f (λ i lt. each i (omega arith)), each n (omega arith))

-- who has each of so many places has so many
pub has_each : (n : ℕ) (xs : List ℕ) → ((i : ℕ) → i < n → 0 < times i xs) → n ≤ length xs
has_each n xs each = omega (arith, sum_least n (λ i. times i xs) each, sum_times n xs)
