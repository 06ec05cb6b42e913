-- Where a binary search ends.
use Rattle.std.proofs.Common.{◌≡◌, ◌∙◌, ◌+◌, ◌<◌, ◌≤◌, ℕ, Bool, true, false, cond, List, [], ◌∷◌, refl, sym, ap, suc, zero, length, get_or, arith, ◌++◌, ◌-◌, take, drop, map, append_assoc}
use Rattle.std.proofs.lemmas.List.{get_or-drop, length-drop, length-map, take_more}
use Rattle.std.specs.List.{AllByRecursion, prefix_len}
use Rattle.std.specs.List.Sorted.{IsPartitionedBy, IsPartitionPoint}
use Rattle.std.specs.Cmp.{IsTotalOrder}
use Rattle.std.specs.declared.sync.Arc.{Arc}
use Rattle.std.specs.declared.alloc.Global.{Global}
use Rattle.std.specs.Ordering.{is_le, is_lt}
use Rattle.std.specs.declared.cmp.Ordering.{Ordering}
use Rattle.std.specs.declared.cmp.Ordering.TheVariants.{Less, Equal, Greater}
use Rattle.frs_pmap.specs.Entries.{IsRising, is_below, is_upto, seen_one}
use Rattle.frs_pmap.proofs.Orders.{less_le}

-- the place between those that pass and those that don't is the number of the first
pub place_is : {X : Type 0} (p : X → Bool) (xs : List X) (at : ℕ) → at ≤ length xs → IsPartitionPoint (λ x. p x ≡ true) (λ x. p x ≡ false) xs at → at ≡ prefix_len p xs
place_is p [] at within point = omega arith
place_is p (x ∷ xs) zero within point = let fails : p x ≡ false = point.1 0 x (omega arith) (omega arith) in sym (ap (λ b. cond b (1 + prefix_len p xs) 0) fails)
place_is p (x ∷ xs) (suc at) within point =
    let passes : p x ≡ true = point.0 0 x (omega arith) (omega arith) in
    let rest : at ≡ prefix_len p xs = place_is p xs at (omega arith) (λ k d low high. point.0 (suc k) d (omega arith) (omega arith), λ k d low high. point.1 (suc k) d (omega arith) (omega arith)) in
    let whole : suc at ≡ 1 + prefix_len p xs = omega arith in
    whole ∙ sym (ap (λ b. cond b (1 + prefix_len p xs) 0) passes)

lt_le : (r : Ordering) → is_lt r ≡ true → is_le r ≡ true
lt_le Less h = refl
lt_le Equal h = absurd (cc)
lt_le Greater h = absurd (cc)

module _ {K : Type 0} {cmp : K → K → Ordering} (o : IsTotalOrder cmp) where
  module _ {X : Type 0} where
    after_first : (e : K × X) (es : List (K × X)) (k : K) (j : ℕ) (d : K × X) → AllByRecursion (λ f. cmp e.0 f.0 ≡ Less) es → j < length es
        → is_le (cmp (get_or es j d).0 k) ≡ true → cmp e.0 k ≡ Less
    after_first e [] k j d a within p = absurd (omega arith)
    after_first e (f ∷ es) k zero d a within p = less_le o e.0 f.0 k a.0 p
    after_first e (f ∷ es) k (suc j) d a within p = after_first e es k j d a.1 (omega arith) p

    -- what is at or below a key comes first
    pub upto_first : (k : K) (es : List (K × X)) → IsRising cmp es → IsPartitionedBy (is_upto cmp k) es
    upto_first k [] up i j d le within p = absurd (omega arith)
    upto_first k (e ∷ es) up zero zero d le within p = p
    upto_first k (e ∷ es) up zero (suc j) d le within p = ap is_le (after_first e es k j d up.0 (omega arith) p)
    upto_first k (e ∷ es) up (suc i) zero d le within p = absurd (omega arith)
    upto_first k (e ∷ es) up (suc i) (suc j) d le within p = upto_first k es up.1 i j d (omega arith) (omega arith) p

    -- what is below a key comes first
    pub below_first : (k : K) (es : List (K × X)) → IsRising cmp es → IsPartitionedBy (is_below cmp k) es
    below_first k [] up i j d le within p = absurd (omega arith)
    below_first k (e ∷ es) up zero zero d le within p = p
    below_first k (e ∷ es) up zero (suc j) d le within p = ap is_lt (after_first e es k j d up.0 (omega arith) (lt_le (cmp (get_or es j d).0 k) p))
    below_first k (e ∷ es) up (suc i) zero d le within p = absurd (omega arith)
    below_first k (e ∷ es) up (suc i) (suc j) d le within p = below_first k es up.1 i j d (omega arith) (omega arith) p

-- ---- one more of a range

pub one_more : {X Y : Type 0} (f : X → Y) (xs : List X) (from at : ℕ) (x : X) (start now next : List Y) → from ≤ at → at < length xs → x ≡ get_or xs at x
    → now ≡ start ++ take (at - from) (drop from (map f xs)) → next ≡ now ++ f x ∷ [] → next ≡ start ++ take (at + 1 - from) (drop from (map f xs))
one_more f xs from at x start now next low within is before after =
    let n : at + 1 - from ≡ (at - from) + 1 = omega arith in
    let whole : from + (at - from) ≡ at = omega arith in
    let inside : at - from < length (drop from (map f xs)) = rw (length-drop, length-map) (omega arith) in
    let found : get_or (drop from (map f xs)) (at - from) (f x) ≡ f x =
    get_or-drop from (map f xs) (at - from) (f x) ∙ ap (λ i. get_or (map f xs) i (f x)) whole ∙ read f xs at x is in
    after ∙ ap (λ l. l ++ f x ∷ []) before ∙ append_assoc start (take (at - from) (drop from (map f xs))) (f x ∷ [])
    ∙ ap (λ l. start ++ l) (ap (λ y. take (at - from) (drop from (map f xs)) ++ y ∷ []) (sym found) ∙ sym (take_more (drop from (map f xs)) (at - from) (f x) inside) ∙ ap (λ i. take i (drop from (map f xs))) (sym n))
  where
    read : {X Y : Type 0} (f : X → Y) (xs : List X) (at : ℕ) (x : X) → x ≡ get_or xs at x → get_or (map f xs) at (f x) ≡ f x
    read f [] at x e = refl
    read f (y ∷ xs) zero x e = ap f (sym e)
    read f (y ∷ xs) (suc at) x e = read f xs at x e

pub drop-map : {X Y : Type 0} (f : X → Y) (n : ℕ) (xs : List X) → drop n (map f xs) ≡ map f (drop n xs)
drop-map f zero xs = refl
drop-map f (suc n) [] = refl
drop-map f (suc n) (x ∷ xs) = drop-map f n xs

pub place_seen : {K P : Type 0} (cmp : K → K → Ordering) (k : K) (es : List (K × Arc P Global)) → prefix_len (is_upto cmp k) (map seen_one es) ≡ prefix_len (is_upto cmp k) es
place_seen cmp k [] = refl
place_seen cmp k (e ∷ es) = ap (λ n. cond (is_le (cmp e.0 k)) (1 + n) 0) (place_seen cmp k es)

pub below_seen : {K P : Type 0} (cmp : K → K → Ordering) (k : K) (es : List (K × Arc P Global)) → prefix_len (is_below cmp k) (map seen_one es) ≡ prefix_len (is_below cmp k) es
below_seen cmp k [] = refl
below_seen cmp k (e ∷ es) = ap (λ n. cond (is_lt (cmp e.0 k)) (1 + n) 0) (below_seen cmp k es)

pub rising_seen : {K P : Type 0} (cmp : K → K → Ordering) (es : List (K × Arc P Global)) → IsRising cmp (map seen_one es) → IsRising cmp es
rising_seen {K} {P} cmp [] up = tt
rising_seen {K} {P} cmp (e ∷ es) up = (each es up.0, rising_seen cmp es up.1)
  where
    each : (l : List (K × Arc P Global)) → AllByRecursion (λ f. cmp e.0 f.0 ≡ Less) (map seen_one l) → AllByRecursion (λ f. cmp e.0 f.0 ≡ Less) l
    each [] h = tt
    each (f ∷ l) h = (h.0, each l h.1)
