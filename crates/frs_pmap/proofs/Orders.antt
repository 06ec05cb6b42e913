-- Entries in order of their keys, and look-ups among them.
use Rattle.std.proofs.Common.{◌≡◌, ◌∙◌, ◌+◌, ℕ, Bool, true, false, cond, List, [], ◌∷◌, ◌++◌, Some, None, refl, sym, ap, subst, suc, zero, take, drop, arith}
use Rattle.std.specs.Prelude.{slice_get}
use Rattle.std.specs.List.{AllByRecursion, prefix_len}
use Rattle.std.specs.Cmp.{IsTotalOrder, alike_right}
use Rattle.std.specs.Ordering.{is_eq, is_le, match_ordering, ordering_reverse}
use Rattle.std.specs.declared.cmp.Ordering.{Ordering}
use Rattle.std.specs.declared.cmp.Ordering.TheVariants.{Less, Equal, Greater}
use Rattle.std.specs.Map.{lookup, remove_entry}
use Rattle.std.specs.BTreeMap.{insert_entry, is_at}
use Rattle.frs_pmap.specs.Entries.{IsRising, is_upto}

-- ---- all of a list

pub all_front : {X : Type 0} (P : X → Type 0) (a b : List X) → AllByRecursion P (a ++ b) → AllByRecursion P a
all_front P [] b h = tt
all_front P (x ∷ a) b h = (h.0, all_front P a b h.1)

pub all_back : {X : Type 0} (P : X → Type 0) (a b : List X) → AllByRecursion P (a ++ b) → AllByRecursion P b
all_back P [] b h = h
all_back P (x ∷ a) b h = all_back P a b h.1

pub all_join : {X : Type 0} (P : X → Type 0) (a b : List X) → AllByRecursion P a → AllByRecursion P b → AllByRecursion P (a ++ b)
all_join P [] b h k = k
all_join P (x ∷ a) b h k = (h.0, all_join P a b h.1 k)

pub all_by : {X : Type 0} (P Q : X → Type 0) (a : List X) → ((x : X) → P x → Q x) → AllByRecursion P a → AllByRecursion Q a
all_by P Q [] f h = tt
all_by P Q (x ∷ a) f h = (f x h.0, all_by P Q a f h.1)

-- a list is what comes before one of it, that one, and what comes after
pub at_get : {X : Type 0} (xs : List X) (i : ℕ) (x : X) → slice_get xs i ≡ Some x → xs ≡ take i xs ++ x ∷ drop (suc i) xs
at_get [] i x e = absurd (cc)
at_get (y ∷ xs) zero x e = let s : y ≡ x = cc in ap (λ z. z ∷ xs) s
at_get (y ∷ xs) (suc i) x e = ap (λ l. y ∷ l) (at_get xs i x e)

module _ {K : Type 0} {cmp : K → K → Ordering} (o : IsTotalOrder cmp) where
  pub turned : (x y : K) (r : Ordering) → cmp y x ≡ r → cmp x y ≡ ordering_reverse r
  turned x y r e = o.antisymm x y ∙ ap ordering_reverse e

  pub less_le : (x y z : K) → cmp x y ≡ Less → is_le (cmp y z) ≡ true → cmp x z ≡ Less
  less_le x y z p q = by (cmp y z) refl q
    where
      by : (r : Ordering) → cmp y z ≡ r → is_le r ≡ true → cmp x z ≡ Less
      by Less e h = o.trans x y z p e
      by Equal e h = sym (alike_right o y z x e) ∙ p
      by Greater e h = absurd (cc)

  pub above_if_not_upto : (x k : K) → is_le (cmp x k) ≡ false → cmp k x ≡ Less
  above_if_not_upto x k q = by (cmp x k) refl q
    where
      by : (r : Ordering) → cmp x k ≡ r → is_le r ≡ false → cmp k x ≡ Less
      by Less e h = absurd (cc)
      by Equal e h = absurd (cc)
      by Greater e h = turned k x Greater e

  module _ {X : Type 0} where
    abbrev pub AllLow : K → List (K × X) → Type 0
    AllLow k es = AllByRecursion (λ e. cmp e.0 k ≡ Less) es

    abbrev pub AllHigh : K → List (K × X) → Type 0
    AllHigh k es = AllByRecursion (λ e. cmp k e.0 ≡ Less) es

    -- ---- where a key has its place

    pub high_from_first : (k : K) (e : K × X) (es : List (K × X)) → cmp k e.0 ≡ Less → AllByRecursion (λ f. cmp e.0 f.0 ≡ Less) es → AllHigh k es
    high_from_first k e es h a = all_by (λ f. cmp e.0 f.0 ≡ Less) (λ f. cmp k f.0 ≡ Less) es (λ f p. o.trans k e.0 f.0 h p) a

    -- none is at or below the key
    pub place_none : (k : K) (es : List (K × X)) → IsRising cmp es → 0 ≡ prefix_len (is_upto cmp k) es → AllHigh k es
    place_none k [] up is = tt
    place_none k (e ∷ es) up is = by (is_le (cmp e.0 k)) refl is
      where
        by : (b : Bool) → is_le (cmp e.0 k) ≡ b → 0 ≡ cond b (1 + prefix_len (is_upto cmp k) es) 0 → AllHigh k (e ∷ es)
        by true p is = absurd (omega arith)
        by false p is = let h = above_if_not_upto e.0 k p in (h, high_from_first k e es h up.0)

    -- the last that is at or below the key
    pub place_some : (k : K) (es : List (K × X)) (i : ℕ) (x : K × X) → IsRising cmp es → i + 1 ≡ prefix_len (is_upto cmp k) es → slice_get es i ≡ Some x
        → AllLow k (take i es) × (is_le (cmp x.0 k) ≡ true) × AllHigh k (drop (suc i) es)
    place_some k [] i x up is at = absurd (cc)
    place_some k (e ∷ es) i x up is at = by (is_le (cmp e.0 k)) refl i is at (λ j. place_some k es j x up.1)
      where
        low : (j : ℕ) → is_le (cmp x.0 k) ≡ true → slice_get es j ≡ Some x → cmp e.0 k ≡ Less
        low j p q = less_le e.0 x.0 k (found es j up.0 q) p
          where
            found : (l : List (K × X)) (j : ℕ) → AllByRecursion (λ f. cmp e.0 f.0 ≡ Less) l → slice_get l j ≡ Some x → cmp e.0 x.0 ≡ Less
            found [] j a q = absurd (cc)
            found (f ∷ l) zero a q = let s : f ≡ x = cc in subst (λ (y : K × X). cmp e.0 y.0 ≡ Less) s a.0
            found (f ∷ l) (suc j) a q = found l j a.1 q

        by : (b : Bool) → is_le (cmp e.0 k) ≡ b → (i : ℕ) → i + 1 ≡ cond b (1 + prefix_len (is_upto cmp k) es) 0 → slice_get (e ∷ es) i ≡ Some x
            → ((j : ℕ) → j + 1 ≡ prefix_len (is_upto cmp k) es → slice_get es j ≡ Some x → AllLow k (take j es) × (is_le (cmp x.0 k) ≡ true) × AllHigh k (drop (suc j) es))
            → AllLow k (take i (e ∷ es)) × (is_le (cmp x.0 k) ≡ true) × AllHigh k (drop (suc i) (e ∷ es))
        by true p zero is at more =
            let none : 0 ≡ prefix_len (is_upto cmp k) es = omega arith in
            let s : e ≡ x = cc in
            (tt, subst (λ (y : K × X). is_le (cmp y.0 k) ≡ true) s p, place_none k es up.1 none)
        by true p (suc i) is at more =
            let rest = more i (omega arith) at in
            ((low i rest.1 at, rest.0), rest.1, rest.2)
        by false p i is at more = absurd (omega arith)

    -- ---- look-ups and changes among parts

    after_low : (k : K) (e : K × X) → cmp e.0 k ≡ Less → cmp k e.0 ≡ Greater
    after_low k e p = turned k e.0 Less p

    pub lookup_past : (k : K) (a b : List (K × X)) → AllLow k a → lookup (is_at (cmp k)) (a ++ b) ≡ lookup (is_at (cmp k)) b
    lookup_past k [] b h = refl
    lookup_past k (e ∷ a) b h = ap (λ r. cond (is_eq r) (Some e.1) (lookup (is_at (cmp k)) (a ++ b))) (after_low k e h.0) ∙ lookup_past k a b h.1

    pub lookup_high : (k : K) (b : List (K × X)) → AllHigh k b → lookup (is_at (cmp k)) b ≡ None
    lookup_high k [] h = refl
    lookup_high k (e ∷ b) h = ap (λ r. cond (is_eq r) (Some e.1) (lookup (is_at (cmp k)) b)) h.0 ∙ lookup_high k b h.1

    pub lookup_before : (k : K) (a b : List (K × X)) → AllHigh k b → lookup (is_at (cmp k)) (a ++ b) ≡ lookup (is_at (cmp k)) a
    lookup_before k [] b h = lookup_high k b h
    lookup_before k (e ∷ a) b h = ap (λ l. cond (is_eq (cmp k e.0)) (Some e.1) l) (lookup_before k a b h)

    pub insert_past : (k : K) (v : X) (a b : List (K × X)) → AllLow k a → insert_entry cmp (a ++ b) k v ≡ a ++ insert_entry cmp b k v
    insert_past k v [] b h = refl
    insert_past k v (e ∷ a) b h = ap (λ r. match_ordering r ((k, v) ∷ e ∷ (a ++ b)) ((e.0, v) ∷ (a ++ b)) (e ∷ insert_entry cmp (a ++ b) k v)) (after_low k e h.0)
        ∙ ap (λ l. e ∷ l) (insert_past k v a b h.1)

    pub insert_high : (k : K) (v : X) (b : List (K × X)) → AllHigh k b → insert_entry cmp b k v ≡ (k, v) ∷ b
    insert_high k v [] h = refl
    insert_high k v (e ∷ b) h = ap (λ r. match_ordering r ((k, v) ∷ e ∷ b) ((e.0, v) ∷ b) (e ∷ insert_entry cmp b k v)) h.0

    pub insert_before : (k : K) (v : X) (a b : List (K × X)) → AllHigh k b → insert_entry cmp (a ++ b) k v ≡ insert_entry cmp a k v ++ b
    insert_before k v [] b h = insert_high k v b h
    insert_before k v (e ∷ a) b h = by (cmp k e.0) (insert_before k v a b h)
      where
        by : (r : Ordering) → insert_entry cmp (a ++ b) k v ≡ insert_entry cmp a k v ++ b
            → match_ordering r ((k, v) ∷ e ∷ (a ++ b)) ((e.0, v) ∷ (a ++ b)) (e ∷ insert_entry cmp (a ++ b) k v) ≡ match_ordering r ((k, v) ∷ e ∷ a) ((e.0, v) ∷ a) (e ∷ insert_entry cmp a k v) ++ b
        by Less i = refl
        by Equal i = refl
        by Greater i = ap (λ l. e ∷ l) i

    pub remove_past : (k : K) (a b : List (K × X)) → AllLow k a → remove_entry (is_at (cmp k)) (a ++ b) ≡ a ++ remove_entry (is_at (cmp k)) b
    remove_past k [] b h = refl
    remove_past k (e ∷ a) b h = ap (λ r. cond (is_eq r) (a ++ b) (e ∷ remove_entry (is_at (cmp k)) (a ++ b))) (after_low k e h.0) ∙ ap (λ l. e ∷ l) (remove_past k a b h.1)

    pub remove_high : (k : K) (b : List (K × X)) → AllHigh k b → remove_entry (is_at (cmp k)) b ≡ b
    remove_high k [] h = refl
    remove_high k (e ∷ b) h = ap (λ r. cond (is_eq r) b (e ∷ remove_entry (is_at (cmp k)) b)) h.0 ∙ ap (λ l. e ∷ l) (remove_high k b h.1)

    pub remove_before : (k : K) (a b : List (K × X)) → AllHigh k b → remove_entry (is_at (cmp k)) (a ++ b) ≡ remove_entry (is_at (cmp k)) a ++ b
    remove_before k [] b h = remove_high k b h
    remove_before k (e ∷ a) b h = by (is_eq (cmp k e.0)) (remove_before k a b h)
      where
        by : (r : Bool) → remove_entry (is_at (cmp k)) (a ++ b) ≡ remove_entry (is_at (cmp k)) a ++ b
            → cond r (a ++ b) (e ∷ remove_entry (is_at (cmp k)) (a ++ b)) ≡ cond r a (e ∷ remove_entry (is_at (cmp k)) a) ++ b
        by true i = refl
        by false i = ap (λ l. e ∷ l) i

    -- ---- the order of parts

    pub rising_front : (a b : List (K × X)) → IsRising cmp (a ++ b) → IsRising cmp a
    rising_front [] b up = tt
    rising_front (e ∷ a) b up = (all_front (λ f. cmp e.0 f.0 ≡ Less) a b up.0, rising_front a b up.1)

    pub rising_back : (a b : List (K × X)) → IsRising cmp (a ++ b) → IsRising cmp b
    rising_back [] b up = up
    rising_back (e ∷ a) b up = rising_back a b up.1

    -- all before a key are below it
    pub low_before : (a : List (K × X)) (e : K × X) (b : List (K × X)) (k : K) → IsRising cmp (a ++ e ∷ b) → is_le (cmp e.0 k) ≡ true → AllLow k a
    low_before [] e b k up p = tt
    low_before (f ∷ a) e b k up p = (less_le f.0 e.0 k (all_back (λ x. cmp f.0 x.0 ≡ Less) a (e ∷ b) up.0).0 p, low_before a e b k up.1 p)

    all_put : (P : K → Type 0) (k : K) (v : X) (es : List (K × X)) → AllByRecursion (λ e. P e.0) es → P k → AllByRecursion (λ e. P e.0) (insert_entry cmp es k v)
    all_put P k v [] a p = (p, tt)
    all_put P k v (e ∷ es) a p = by (cmp k e.0) (all_put P k v es a.1 p)
      where
        by : (r : Ordering) → AllByRecursion (λ e. P e.0) (insert_entry cmp es k v) → AllByRecursion (λ e. P e.0) (match_ordering r ((k, v) ∷ e ∷ es) ((e.0, v) ∷ es) (e ∷ insert_entry cmp es k v))
        by Less i = (p, a)
        by Equal i = (a.0, a.1)
        by Greater i = (a.0, i)

    pub rising_put : (k : K) (v : X) (es : List (K × X)) → IsRising cmp es → IsRising cmp (insert_entry cmp es k v)
    rising_put k v [] up = (tt, tt)
    rising_put k v (e ∷ es) up = by (cmp k e.0) refl (rising_put k v es up.1)
      where
        by : (r : Ordering) → cmp k e.0 ≡ r → IsRising cmp (insert_entry cmp es k v) → IsRising cmp (match_ordering r ((k, v) ∷ e ∷ es) ((e.0, v) ∷ es) (e ∷ insert_entry cmp es k v))
        by Less c i = ((c, high_from_first k e es c up.0), up)
        by Equal c i = up
        by Greater c i = (all_put (λ f. cmp e.0 f ≡ Less) k v es up.0 (turned e.0 k Greater c), i)

    all_less : (P : K × X → Type 0) (test : K → Bool) (es : List (K × X)) → AllByRecursion P es → AllByRecursion P (remove_entry test es)
    all_less P test [] a = tt
    all_less P test (e ∷ es) a = by (test e.0) (all_less P test es a.1)
      where
        by : (b : Bool) → AllByRecursion P (remove_entry test es) → AllByRecursion P (cond b es (e ∷ remove_entry test es))
        by true i = a.1
        by false i = (a.0, i)

    pub rising_less : (test : K → Bool) (es : List (K × X)) → IsRising cmp es → IsRising cmp (remove_entry test es)
    rising_less test [] up = tt
    rising_less test (e ∷ es) up = by (test e.0) (rising_less test es up.1)
      where
        by : (b : Bool) → IsRising cmp (remove_entry test es) → IsRising cmp (cond b es (e ∷ remove_entry test es))
        by true i = up.1
        by false i = (all_less (λ f. cmp e.0 f.0 ≡ Less) test es up.0, i)
