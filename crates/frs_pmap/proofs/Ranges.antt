-- The entries from a key on, one by one.
use Rattle.std.proofs.Common.{◌≡◌, ◌∙◌, ◌+◌, ◌≤◌, ℕ, Bool, true, false, cond, List, [], ◌∷◌, ◌++◌, Some, None, refl, sym, ap, subst, suc, zero, map, take, arith}
use Rattle.std.specs.Prelude.{Option, filter, find, option_map, slice_get}
use Rattle.std.specs.List.{AllByRecursion}
use Rattle.std.specs.Cmp.{IsTotalOrder}
use Rattle.std.specs.Ordering.{is_le, is_lt}
use Rattle.std.specs.declared.cmp.Ordering.{Ordering}
use Rattle.std.specs.declared.cmp.Ordering.TheVariants.{Less, Equal, Greater}
use Rattle.frs_pmap.specs.Entries.{IsRising, is_above, is_from}
use Rattle.frs_pmap.proofs.Orders.{AllHigh, high_from_first, turned}

-- the first that meets a test is the first of those that do
pub find_first : {X : Type 0} (p : X → Bool) (es : List X) → find p es ≡ slice_get (filter p es) 0
find_first p [] = refl
find_first p (e ∷ es) = by (p e) (find_first p es)
  where
    by : (b : Bool) → find p es ≡ slice_get (filter p es) 0 → cond b (Some e) (find p es) ≡ slice_get (cond b (e ∷ filter p es) (filter p es)) 0
    by true i = refl
    by false i = i

-- what holds of all holds of those that meet a test
of_filter : {X : Type 0} (p : X → Bool) (Q : X → Type 0) (es : List X) (n : ℕ) (x : X) → AllByRecursion Q es → slice_get (filter p es) n ≡ Some x → Q x
of_filter p Q [] n x a got = absurd (cc)
of_filter p Q (e ∷ es) n x a got = by (p e) n got (λ m. of_filter p Q es m x a.1)
  where
    by : (b : Bool) (n : ℕ) → slice_get (cond b (e ∷ filter p es) (filter p es)) n ≡ Some x → ((m : ℕ) → slice_get (filter p es) m ≡ Some x → Q x) → Q x
    by true zero got more = let s : e ≡ x = cc in subst Q s a.0
    by true (suc n) got more = more n got
    by false n got more = more n got

-- one more key of those that are taken
pub taken_more : {K X : Type 0} (fs : List (K × X)) (n : ℕ) (x : K × X) → slice_get fs n ≡ Some x → map (λ e. e.0) (take n fs) ++ x.0 ∷ [] ≡ map (λ e. e.0) (take (n + 1) fs)
taken_more [] n x got = absurd (cc)
taken_more (e ∷ fs) zero x got = let s : e ≡ x = cc in ap (λ (y : _). y.0 ∷ []) (sym s)
taken_more (e ∷ fs) (suc n) x got = let k : suc n + 1 ≡ suc (n + 1) = omega arith in ap (λ l. e.0 ∷ l) (taken_more fs n x got) ∙ sym (ap (λ m. map (λ e. e.0) (take m (e ∷ fs))) k)

-- so with the key alone
pub taken_key : {K X : Type 0} (fs : List (K × X)) (n : ℕ) (k : K) → Some k ≡ option_map (λ e. e.0) (slice_get fs n) → map (λ e. e.0) (take n fs) ++ k ∷ [] ≡ map (λ e. e.0) (take (n + 1) fs)
taken_key {K} {X} fs n k e = by (slice_get fs n) refl e
  where
    by : (r : Option (K × X)) → slice_get fs n ≡ r → Some k ≡ option_map (λ e. e.0) r → map (λ e. e.0) (take n fs) ++ k ∷ [] ≡ map (λ e. e.0) (take (n + 1) fs)
    by None got e = absurd (cc)
    by (Some x) got e = let s : k ≡ x.0 = cc in ap (λ y. map (λ (e : K × X). e.0) (take n fs) ++ y ∷ []) s ∙ taken_more fs n x got

pub key_none : {K X : Type 0} (r : Option (K × X)) → None ≡ option_map (λ e. e.0) r → r ≡ None
key_none None e = refl
key_none (Some x) e = absurd (cc)

-- where there are no more, all are taken
pub taken_all : {X : Type 0} (fs : List X) (n m : ℕ) → slice_get fs n ≡ None → n ≤ m → take n fs ≡ take m fs
taken_all [] zero zero got le = refl
taken_all [] zero (suc m) got le = refl
taken_all [] (suc n) zero got le = absurd (omega arith)
taken_all [] (suc n) (suc m) got le = refl
taken_all (e ∷ fs) zero m got le = absurd (cc)
taken_all (e ∷ fs) (suc n) zero got le = absurd (omega arith)
taken_all (e ∷ fs) (suc n) (suc m) got le = ap (λ l. e ∷ l) (taken_all fs n m got (omega arith))

module _ {K : Type 0} {cmp : K → K → Ordering} (o : IsTotalOrder cmp) where
  not_above_itself : (k : K) → is_lt (cmp k k) ≡ false
  not_above_itself k = by (cmp k k) refl
    where
      by : (r : Ordering) → cmp k k ≡ r → is_lt (cmp k k) ≡ false
      by Less c = absurd (let t : cmp k k ≡ Greater = turned o k k Less c in cc)
      by Equal c = ap is_lt c
      by Greater c = ap is_lt c

module _ {K V : Type 0} {cmp : K → K → Ordering} (o : IsTotalOrder cmp) where
  find_high : (k : K) (es : List (K × V)) → AllHigh o k es → find (is_above cmp k) es ≡ slice_get es 0
  find_high k [] h = refl
  find_high k (e ∷ es) h = ap (λ t. cond t (Some e) (find (is_above cmp k) es)) (ap is_lt h.0)

  filter_high : (k : K) (es : List (K × V)) → AllHigh o k es → filter (is_from cmp k) es ≡ es
  filter_high k [] h = refl
  filter_high k (e ∷ es) h = ap (λ t. cond t (e ∷ filter (is_from cmp k) es) (filter (is_from cmp k) es)) (ap is_le h.0) ∙ ap (λ l. e ∷ l) (filter_high k es h.1)

  high_from : (k : K) (e : K × V) (es : List (K × V)) → is_le (cmp k e.0) ≡ true → AllHigh o e.0 es → AllHigh o k es
  high_from k e es le h = by (cmp k e.0) refl le
    where
      by : (r : Ordering) → cmp k e.0 ≡ r → is_le r ≡ true → AllHigh o k es
      by Less c le = high_from_first o k e es c h
      by Equal c le = each es h
        where
          each : (l : List (K × V)) → AllHigh o e.0 l → AllHigh o k l
          each [] h = tt
          each (f ∷ l) h = (o.congr k e.0 f.0 c ∙ h.0, each l h.1)
      by Greater c le = absurd (cc)

  -- behind the entry at a place comes the one at the next
  pub next_from : (k : K) (es : List (K × V)) (n : ℕ) (x : K × V) → IsRising cmp es → slice_get (filter (is_from cmp k) es) n ≡ Some x → find (is_above cmp x.0) es ≡ slice_get (filter (is_from cmp k) es) (n + 1)
  next_from k [] n x up got = absurd (cc)
  next_from k (e ∷ es) n x up got = by (is_le (cmp k e.0)) refl n got (λ m. next_from k es m x up.1)
    where
      fs : List (K × V)
      fs = filter (is_from cmp k) es

      lower : (m : ℕ) → slice_get (filter (is_from cmp k) es) m ≡ Some x → find (is_above cmp x.0) (e ∷ es) ≡ find (is_above cmp x.0) es
      lower m got = let l : cmp e.0 x.0 ≡ Less = of_filter (is_from cmp k) (λ f. cmp e.0 f.0 ≡ Less) es m x up.0 got in
          ap (λ t. cond t (Some e) (find (is_above cmp x.0) es)) (ap is_lt (turned o x.0 e.0 Less l))

      by : (b : Bool) → is_le (cmp k e.0) ≡ b → (n : ℕ) → slice_get (cond b (e ∷ filter (is_from cmp k) es) (filter (is_from cmp k) es)) n ≡ Some x
          → ((m : ℕ) → slice_get (filter (is_from cmp k) es) m ≡ Some x → find (is_above cmp x.0) es ≡ slice_get (filter (is_from cmp k) es) (m + 1))
          → find (is_above cmp x.0) (e ∷ es) ≡ slice_get (cond b (e ∷ filter (is_from cmp k) es) (filter (is_from cmp k) es)) (n + 1)
      by true le zero got more =
          let s : e ≡ x = cc in
          let here : find (is_above cmp e.0) (e ∷ es) ≡ find (is_above cmp e.0) es = ap (λ t. cond t (Some e) (find (is_above cmp e.0) es)) (not_above_itself o e.0) in
          subst (λ (y : K × V). find (is_above cmp y.0) (e ∷ es) ≡ slice_get (filter (is_from cmp k) es) 0) s
          (here ∙ find_high e.0 es up.0 ∙ sym (ap (λ l. slice_get l 0) (filter_high k es (high_from k e es le up.0))))
      by true le (suc n) got more = let k1 : suc n + 1 ≡ suc (n + 1) = omega arith in lower n got ∙ more n got ∙ sym (ap (slice_get (e ∷ filter (is_from cmp k) es)) k1)
      by false le n got more = lower n got ∙ more n got

  pub next_key : (k : K) (es : List (K × V)) (n : ℕ) (at : K) → IsRising cmp es → Some at ≡ option_map (λ e. e.0) (slice_get (filter (is_from cmp k) es) n)
      → find (is_above cmp at) es ≡ slice_get (filter (is_from cmp k) es) (n + 1)
  next_key k es n at up e = by (slice_get (filter (is_from cmp k) es) n) refl e
    where
      by : (r : Option (K × V)) → slice_get (filter (is_from cmp k) es) n ≡ r → Some at ≡ option_map (λ e. e.0) r → find (is_above cmp at) es ≡ slice_get (filter (is_from cmp k) es) (n + 1)
      by None got e = absurd (cc)
      by (Some x) got e = let s : at ≡ x.0 = cc in ap (λ y. find (is_above cmp y) es) s ∙ next_from k es n x up got
