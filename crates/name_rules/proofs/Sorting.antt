-- Lists in order, by a key of their items.
use Rattle.std.proofs.Common.{◌≡◌, ◌∙◌, ◌+◌, ◌≤◌, ℕ, suc, inl, inr, Bool, true, false, cond, List, [], ◌∷◌, Ordering, Less, Equal, Greater, get_or, is_eq, is_lt, refl, sym, ap, subst, arith}
use Rattle.std.proofs.lemmas.Cmp.{tied_itself}
use Rattle.std.proofs.lemmas.List.Sorted.{ranks_by, sorted_far, sum_by-IsPermutation}
use Rattle.std.proofs.lemmas.List.Sums.{sum_by-cons}
use Rattle.std.specs.Cmp.{IsTotalOrder}
use Rattle.std.specs.List.{sum_by}
use Rattle.std.specs.List.Sorted.{IsPermutation, IsSortedBy}
use Rattle.std.specs.Ordering.{ordering_reverse}
use Rattle.frs_base.specs.Options.{In}
use Rattle.name_rules.proofs.Lists.{in_at}

pub is_equal : (o : Ordering) → is_eq o ≡ true → o ≡ Equal
is_equal Less e = absurd (cc)
is_equal Equal e = refl
is_equal Greater e = absurd (cc)

module _ {X K : Type 0} (key : X → K) (cmp : K → K → Ordering) (total : IsTotalOrder cmp) where
  -- ---- after a sort

  -- none that comes later is lower
  pub none_lower : (x : X) (xs : List X) → IsSortedBy (λ a b. is_lt (cmp (key a) (key b))) (x ∷ xs) → (y : X) → In y xs → is_lt (cmp (key y) (key x)) ≡ false
  none_lower x xs up y h =
      let (k, l, at) = in_at xs y x h in
      subst (λ z. is_lt (cmp (key z) (key x)) ≡ false) at (sorted_far (λ a b. is_lt (cmp (key a) (key b))) (ranks_by total key) (x ∷ xs) up 0 (suc k) x (omega arith) (omega arith))

  pub sorted_rest : (x : X) (xs : List X) → IsSortedBy (λ a b. is_lt (cmp (key a) (key b))) (x ∷ xs) → IsSortedBy (λ a b. is_lt (cmp (key a) (key b))) xs
  sorted_rest x xs up k d low l =
      let next : suc k + 1 ≡ suc (k + 1) = omega arith in
      subst (λ n. is_lt (cmp (key (get_or (x ∷ xs) n d)) (key (get_or xs k d))) ≡ false) next (up (suc k) d (omega arith) (omega arith))

  -- ---- each key once

  -- no two have one key
  abbrev pub HaveOtherKeys : List X → Type 0
  HaveOtherKeys [] = Unit {0}
  HaveOtherKeys (x ∷ xs) = ((y : X) → In y xs → cmp (key x) (key y) ≡ Equal → ⊥) × HaveOtherKeys xs

  -- 1 for one that has the key
  abbrev pub has_key : K → X → ℕ
  has_key k x = cond (is_eq (cmp k (key x))) 1 0

  -- at most one has each key
  abbrev pub HaveKeysOnce : List X → Type 0
  HaveKeysOnce xs = (k : K) → sum_by (has_key k) xs ≤ 1

  none_has : (k : K) (xs : List X) → ((y : X) → In y xs → cmp k (key y) ≡ Equal → ⊥) → sum_by (has_key k) xs ≡ 0
  none_has k [] none = refl
  none_has k (x ∷ xs) none = by (is_eq (cmp k (key x))) refl (none_has k xs (λ y h. none y (inr h)))
    where
      by : (b : Bool) → is_eq (cmp k (key x)) ≡ b → sum_by (has_key k) xs ≡ 0 → sum_by (has_key k) (x ∷ xs) ≡ 0
      by true e more = absurd (none x (inl refl) (is_equal _ e))
      by false e more = let n : has_key k x ≡ 0 = ap (λ t. cond t 1 0) e in let c = sum_by-cons (has_key k) x xs in omega arith

  one_has : (k : K) (xs : List X) (y : X) → In y xs → cmp k (key y) ≡ Equal → 1 ≤ sum_by (has_key k) xs
  one_has k [] y h e = absurd h
  one_has k (x ∷ xs) y (inl s) e =
      let n : has_key k x ≡ 1 = ap (λ o. cond (is_eq o) 1 0) (subst (λ z. cmp k (key z) ≡ Equal) s e) in
      let c = sum_by-cons (has_key k) x xs in
      omega arith
  one_has k (x ∷ xs) y (inr h) e = let more = one_has k xs y h e in let c = sum_by-cons (has_key k) x xs in omega arith

  keys_once : (xs : List X) → HaveOtherKeys xs → HaveKeysOnce xs
  keys_once [] other k = omega arith
  keys_once (x ∷ xs) other k = by (is_eq (cmp k (key x))) refl (keys_once xs other.1 k)
    where
      by : (b : Bool) → is_eq (cmp k (key x)) ≡ b → sum_by (has_key k) xs ≤ 1 → sum_by (has_key k) (x ∷ xs) ≤ 1
      by true e more =
          let n : has_key k x ≡ 1 = ap (λ t. cond t 1 0) e in
          let c = sum_by-cons (has_key k) x xs in
          let none = none_has k xs (λ y h s. other.0 y h (sym (total.congr k (key x) (key y) (is_equal _ e)) ∙ s)) in
          omega arith
      by false e more =
          let n : has_key k x ≡ 0 = ap (λ t. cond t 1 0) e in
          let c = sum_by-cons (has_key k) x xs in
          omega arith

  -- also in another order
  pub moved_once : (xs ys : List X) → HaveOtherKeys xs → IsPermutation xs ys → HaveKeysOnce ys
  moved_once xs ys other moved k = subst (λ n. n ≤ 1) (sym (sum_by-IsPermutation (has_key k) xs ys moved)) (keys_once xs other k)

  pub once_rest : (x : X) (xs : List X) → HaveKeysOnce (x ∷ xs) → HaveKeysOnce xs
  once_rest x xs once k = let e = once k in let c = sum_by-cons (has_key k) x xs in omega arith

  -- one that comes later and isn't lower is higher
  pub is_higher : (x : X) (xs : List X) → HaveKeysOnce (x ∷ xs) → (y : X) → In y xs → is_lt (cmp (key y) (key x)) ≡ false → is_lt (cmp (key x) (key y)) ≡ true
  is_higher x xs once y h low = by (cmp (key x) (key y)) refl
    where
      by : (o : Ordering) → cmp (key x) (key y) ≡ o → is_lt o ≡ true
      by Less e = refl
      by Equal e = absurd (
          let n : has_key (key x) x ≡ 1 = ap (λ o. cond (is_eq o) 1 0) (tied_itself total (key x)) in
          let other = one_has (key x) xs y h e in
          let two = once (key x) in
          let c = sum_by-cons (has_key (key x)) x xs in
          omega arith)
      by Greater e = absurd (let s : is_lt (cmp (key y) (key x)) ≡ true = ap is_lt (total.antisymm (key y) (key x) ∙ ap ordering_reverse e) in cc)
