-- Flags that go up one by one, and the places of those that are up.
use Rattle.std.proofs.Common.{◌≡◌, ◌⊎◌, ◌++◌, ◌+◌, ◌<◌, ℕ, zero, suc, inl, inr, Bool, true, false, List, [], ◌∷◌, Option, Some, cond, length, replicate, slice_get, unwrap_or, refl, sym, ap, ◌∙◌, subst, arith}
use Rattle.std.proofs.lemmas.List.{append-nil, append_assoc, length-append, length-set, replicate-append-replicate}
use Rattle.std.specs.List.{slice_set}
use Rattle.frs_base.specs.Options.{In}
use Rattle.name_rules.specs.Shown.{AreApart, AreFlagged, Finds, HangsMore, down}
use Rattle.name_rules.proofs.Lists.{in_back, in_either, in_front}

-- ---- one flag goes up

set_there : (flags : List Bool) (k : ℕ) → k < length flags → slice_get (slice_set flags k true) k ≡ Some true
set_there [] k l = absurd (omega arith)
set_there (f ∷ fs) zero l = refl
set_there (f ∷ fs) (suc k) l = set_there fs k (omega arith)

set_stays : (flags : List Bool) (k j : ℕ) → slice_get flags j ≡ Some true → slice_get (slice_set flags k true) j ≡ Some true
set_stays [] k j e = e
set_stays (f ∷ fs) zero zero e = refl
set_stays (f ∷ fs) zero (suc j) e = e
set_stays (f ∷ fs) (suc k) zero e = e
set_stays (f ∷ fs) (suc k) (suc j) e = set_stays fs k j e

set_was : (flags : List Bool) (k j : ℕ) → slice_get (slice_set flags k true) j ≡ Some true → (j ≡ k) ⊎ (slice_get flags j ≡ Some true)
set_was [] k j e = inr e
set_was (f ∷ fs) zero zero e = inl refl
set_was (f ∷ fs) zero (suc j) e = inr e
set_was (f ∷ fs) (suc k) zero e = inr e
set_was (f ∷ fs) (suc k) (suc j) e = elim (set_was fs k j e) [ inl s ↦ inl (ap suc s) | inr t ↦ inr t ]

set_down : (flags : List Bool) (k : ℕ) → slice_get flags k ≡ Some false → suc (down (slice_set flags k true)) ≡ down flags
set_down [] k e = absurd (cc)
set_down (f ∷ fs) zero e = ap (λ b. cond b (down fs) (suc (down fs))) (sym (ap (λ o. unwrap_or o false) e))
set_down (true ∷ fs) (suc k) e = set_down fs k e
set_down (false ∷ fs) (suc k) e = ap suc (set_down fs k e)

-- ---- places apart

apart_behind : (ks : List ℕ) (k : ℕ) → AreApart ks → (In k ks → ⊥) → AreApart (ks ++ k ∷ [])
apart_behind [] k apart none = (λ h. h, tt)
apart_behind (j ∷ ks) k apart none = (other, apart_behind ks k apart.1 (λ h. none (inr h)))
  where
    other : In j (ks ++ k ∷ []) → ⊥
    other h = elim (in_either ks (k ∷ []) j h) [ inl h ↦ apart.0 h | inr (inl e) ↦ none (inl (sym e)) | inr (inr out) ↦ absurd out ]

-- ---- one is found

pub record IsFound (count k : ℕ) (flags : List Bool) (queue : List ℕ) (flags' : List Bool) (queue' : List ℕ) : Type 0 where
  pub flagged : AreFlagged count flags' queue'
  pub there : slice_get flags' k ≡ Some true
  pub stay : (j : ℕ) → slice_get flags j ≡ Some true → slice_get flags' j ≡ Some true
  pub more : (added : List ℕ) × (queue' ≡ queue ++ added) × ((j : ℕ) → In j added → j ≡ k)

pub one_found : (count k : ℕ) (flags : List Bool) (queue : List ℕ) (flags' : List Bool) (queue' : List ℕ) → AreFlagged count flags queue → k < count → Finds k flags queue flags' queue' → IsFound count k flags queue flags' queue'
one_found count k flags queue flags' queue' a l (inl (up, f, q)) = record {
  flagged = subst (AreFlagged count flags') (sym q) (subst (λ fs. AreFlagged count fs queue) (sym f) a);
  there = ap (λ fs. slice_get fs k) f ∙ up;
  stay = λ j e. ap (λ fs. slice_get fs j) f ∙ e;
  more = ([], q ∙ sym (append-nil queue), λ j h. absurd h);
}
one_found count k flags queue flags' queue' a l (inr (low, f, q)) = record {
  flagged = subst (AreFlagged count flags') (sym q) (subst (λ fs. AreFlagged count fs (queue ++ k ∷ [])) (sym f) grown);
  there = ap (λ fs. slice_get fs k) f ∙ set_there flags k (omega (arith, a.long));
  stay = λ j e. ap (λ fs. slice_get fs j) f ∙ set_stays flags k j e;
  more = (k ∷ [], q, λ j h. elim h [ inl e ↦ e | inr out ↦ absurd out ]);
}
  where
    grown : AreFlagged count (slice_set flags k true) (queue ++ k ∷ [])
    grown = record {
      long = length-set flags k true ∙ a.long;
      within = λ j h. elim (in_either queue (k ∷ []) j h) [ inl h ↦ a.within j h | inr (inl e) ↦ subst (λ i. i < count) (sym e) l | inr (inr out) ↦ absurd out ];
      up = λ j h. elim (in_either queue (k ∷ []) j h) [
        | inl h ↦ set_stays flags k j (a.up j h)
        | inr (inl e) ↦ subst (λ i. slice_get (slice_set flags k true) i ≡ Some true) (sym e) (set_there flags k (omega (arith, a.long)))
        | inr (inr out) ↦ absurd out
      ];
      whole = λ j e. elim (set_was flags k j e) [
        | inl s ↦ in_back queue (k ∷ []) j (inl s)
        | inr t ↦ in_front queue (k ∷ []) j (a.whole j t)
      ];
      apart = apart_behind queue k a.apart (λ h. let up : slice_get flags k ≡ Some true = a.up k h in let both : Some true ≡ Some false = sym up ∙ low in absurd (cc));
      left = let d = set_down flags k low in let n = length-append queue (k ∷ []) in omega (arith, a.left);
    }

-- ---- none is found yet

pub none_up : (count : ℕ) → AreFlagged count (replicate count false) []
none_up count = record {
  long = long count;
  within = λ k h. absurd h;
  up = λ k h. absurd h;
  whole = λ k e. absurd (none count k e);
  apart = tt;
  left = let d = low count in omega arith;
}
  where
    long : (n : ℕ) → length (replicate n false) ≡ n
    long zero = refl
    long (suc n) = ap suc (long n)

    none : (n k : ℕ) → slice_get (replicate n false) k ≡ Some true → ⊥
    none zero k e = cc
    none (suc n) zero e = cc
    none (suc n) (suc k) e = none n k e

    low : (n : ℕ) → down (replicate n false) ≡ n
    low zero = refl
    low (suc n) = ap suc (low n)

pub one_more : (n : ℕ) → replicate n false ++ false ∷ [] ≡ replicate (n + 1) false
one_more n = let next : suc n ≡ n + 1 = omega arith in go n ∙ ap (λ m. replicate m false) next
  where
    go : (n : ℕ) → replicate n false ++ false ∷ [] ≡ replicate (suc n) false
    go zero = refl
    go (suc n) = ap (λ l. false ∷ l) (go n)

-- below the next number is below this one, or this one
pub upto : (k n : ℕ) → k < n + 1 → (k < n) ⊎ (k ≡ n)
upto zero zero l = inr refl
upto zero (suc n) l = inl (omega arith)
upto (suc k) zero l = absurd (omega arith)
upto (suc k) (suc n) l = elim (upto k n (omega arith)) [ inl h ↦ inl (omega arith) | inr e ↦ inr (ap suc e) ]

-- ---- in one directory

pub hangs_both : {up : Option ℕ} {queue : List ℕ} {above : List (Option ℕ)} {queue' : List ℕ} {above' : List (Option ℕ)} {queue'' : List ℕ} {above'' : List (Option ℕ)}
    → HangsMore up queue above queue' above' → HangsMore up queue' above' queue'' above'' → HangsMore up queue above queue'' above''
hangs_both {up} {queue} {above} a b = record {
  count = a.count + b.count;
  longer = omega (arith, a.longer, b.longer);
  behind = b.behind ∙ ap (λ l. l ++ replicate b.count up) a.behind ∙ append_assoc above (replicate a.count up) (replicate b.count up) ∙ ap (λ l. above ++ l) (replicate-append-replicate a.count b.count up);
}
