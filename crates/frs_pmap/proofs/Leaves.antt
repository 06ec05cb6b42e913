-- Leaves: what copying around a place gives.
use Rattle.std.proofs.Common.{◌≡◌, ◌∙◌, ◌-◌, ◌<◌, ◌≤◌, ℕ, true, false, cond, List, [], ◌∷◌, ◌++◌, Some, None, refl, sym, ap, subst, suc, zero, length, take, drop, arith, append_assoc}
use Rattle.std.specs.Prelude.{slice_get}
use Rattle.std.specs.List.{prefix_len}
use Rattle.std.proofs.lemmas.List.{take_rest, take-append-drop}
use Rattle.std.specs.Cmp.{IsTotalOrder}
use Rattle.std.specs.Ordering.{is_eq, is_le, match_ordering}
use Rattle.std.specs.declared.cmp.Ordering.{Ordering}
use Rattle.std.specs.declared.cmp.Ordering.TheVariants.{Less, Equal, Greater}
use Rattle.std.specs.Map.{lookup, remove_entry}
use Rattle.std.specs.BTreeMap.{insert_entry, is_at}
use Rattle.frs_pmap.specs.Entries.{IsRising, is_upto}
use Rattle.frs_pmap.proofs.Orders.{AllHigh, AllLow, at_get, insert_high, insert_past, lookup_high, lookup_past, place_none, place_some, remove_high, remove_past, turned}

pub front_is : {X : Type 0} (xs : List X) (i : ℕ) → take (i - 0) (drop 0 xs) ≡ take i xs
front_is xs i = let e : i - 0 ≡ i = omega arith in ap (λ n. take n xs) e

module _ {K X : Type 0} {cmp : K → K → Ordering} (o : IsTotalOrder cmp) where
  -- an entry that is at or below the key and isn't at it is below it
  below : (x : K × X) (k : K) → is_le (cmp x.0 k) ≡ true → is_eq (cmp k x.0) ≡ false → cmp x.0 k ≡ Less
  below x k le ne = by (cmp x.0 k) refl le
    where
      by : (r : Ordering) → cmp x.0 k ≡ r → is_le r ≡ true → cmp x.0 k ≡ Less
      by Less e h = e
      by Equal e h = absurd (let t : cmp k x.0 ≡ Equal = turned o k x.0 Equal e in cc)
      by Greater e h = absurd (cc)

  eq_of : (x : K × X) (k : K) → is_eq (cmp k x.0) ≡ true → cmp k x.0 ≡ Equal
  eq_of x k e = by (cmp k x.0) refl e
    where
      by : (r : Ordering) → cmp k x.0 ≡ r → is_eq r ≡ true → cmp k x.0 ≡ Equal
      by Less e h = absurd (cc)
      by Equal e h = e
      by Greater e h = absurd (cc)

  -- the list around the last entry that is at or below the key
  pub record Around (k : K) (es : List (K × X)) (i : ℕ) (x : K × X) : Type 0 where
    pub split : es ≡ take i es ++ x ∷ drop (suc i) es
    pub low : AllLow o k (take i es)
    pub high : AllHigh o k (drop (suc i) es)
    pub upto : is_le (cmp x.0 k) ≡ true

  pub around : (k : K) (es : List (K × X)) (at : ℕ) (x : K × X) → IsRising cmp es → 0 < at → at ≡ prefix_len (is_upto cmp k) es → slice_get es (at - 1) ≡ Some x → Around k es (at - 1) x
  around k es at x up some is got =
      let p = place_some o k es (at - 1) x up (omega arith) got in
      record { split = at_get es (at - 1) x got; low = p.0; high = p.2; upto = p.1 }

  pub get_there : (k : K) (es : List (K × X)) (i : ℕ) (x : K × X) → Around k es i x → is_eq (cmp k x.0) ≡ true → lookup (is_at (cmp k)) es ≡ Some x.1
  get_there k es i x a e =
      ap (lookup (is_at (cmp k))) a.split ∙ lookup_past o k (take i es) (x ∷ drop (suc i) es) a.low ∙ ap (λ b. cond b (Some x.1) (lookup (is_at (cmp k)) (drop (suc i) es))) e

  pub get_beside : (k : K) (es : List (K × X)) (i : ℕ) (x : K × X) → Around k es i x → is_eq (cmp k x.0) ≡ false → lookup (is_at (cmp k)) es ≡ None
  get_beside k es i x a e =
      ap (lookup (is_at (cmp k))) a.split ∙ lookup_past o k (take i es) (x ∷ drop (suc i) es) a.low
      ∙ ap (λ b. cond b (Some x.1) (lookup (is_at (cmp k)) (drop (suc i) es))) e ∙ lookup_high o k (drop (suc i) es) a.high

  pub get_none : (k : K) (es : List (K × X)) (at : ℕ) → IsRising cmp es → at ≤ 0 → at ≡ prefix_len (is_upto cmp k) es → lookup (is_at (cmp k)) es ≡ None
  get_none k es at up none is = lookup_high o k es (place_none o k es up (omega arith))

  pub put_there : (k : K) (v : X) (es : List (K × X)) (i : ℕ) (x : K × X) → Around k es i x → is_eq (cmp k x.0) ≡ true → insert_entry cmp es k v ≡ take i es ++ (x.0, v) ∷ drop (suc i) es
  put_there k v es i x a e =
      ap (λ l. insert_entry cmp l k v) a.split ∙ insert_past o k v (take i es) (x ∷ drop (suc i) es) a.low
      ∙ ap (λ r. take i es ++ match_ordering r ((k, v) ∷ x ∷ drop (suc i) es) ((x.0, v) ∷ drop (suc i) es) (x ∷ insert_entry cmp (drop (suc i) es) k v)) (eq_of x k e)

  put_beside : (k : K) (v : X) (es : List (K × X)) (i : ℕ) (x : K × X) → Around k es i x → is_eq (cmp k x.0) ≡ false → insert_entry cmp es k v ≡ take (suc i) es ++ (k, v) ∷ drop (suc i) es
  put_beside k v es i x a e =
      let l = below x k a.upto e in
      ap (λ l. insert_entry cmp l k v) (sym (take-append-drop (suc i) es)) ∙ insert_past o k v (take (suc i) es) (drop (suc i) es) (low_with es i x a.split a.low l)
      ∙ ap (λ l. take (suc i) es ++ l) (insert_high o k v (drop (suc i) es) a.high)
    where
      low_with : (es : List (K × X)) (i : ℕ) (x : K × X) → es ≡ take i es ++ x ∷ drop (suc i) es → AllLow o k (take i es) → cmp x.0 k ≡ Less → AllLow o k (take (suc i) es)
      low_with [] i x s a l = tt
      low_with (e ∷ es) zero x s a l = (let h : e ≡ x = cc in subst (λ (y : K × X). cmp y.0 k ≡ Less) (sym h) l, tt)
      low_with (e ∷ es) (suc i) x s a l = (a.0, low_with es i x (cc) a.1 l)

  -- where no entry has the key, the new one goes in at the place
  pub put_new_is : (k : K) (v : X) (es : List (K × X)) (at : ℕ) → IsRising cmp es → at ≡ prefix_len (is_upto cmp k) es
      → (0 < at → (x : K × X) × (slice_get es (at - 1) ≡ Some x) × (is_eq (cmp k x.0) ≡ false)) → insert_entry cmp es k v ≡ take at es ++ (k, v) ∷ drop at es
  put_new_is k v es zero up is other = insert_high o k v es (place_none o k es up is)
  put_new_is k v es (suc i) up is other =
      let h = other (omega arith) in
      let n : suc i - 1 ≡ i = omega arith in
      put_beside k v es i h.0 (subst (λ j. Around k es j h.0) n (around k es (suc i) h.0 up (omega arith) is h.1)) h.2

  -- without the entry that has the key
  pub cut_there_is : (k : K) (es : List (K × X)) (i : ℕ) (x : K × X) → Around k es i x → is_eq (cmp k x.0) ≡ true → remove_entry (is_at (cmp k)) es ≡ take i es ++ drop (suc i) es
  cut_there_is k es i x a e =
      ap (remove_entry (is_at (cmp k))) a.split ∙ remove_past o k (take i es) (x ∷ drop (suc i) es) a.low
      ∙ ap (λ b. take i es ++ cond b (drop (suc i) es) (x ∷ remove_entry (is_at (cmp k)) (drop (suc i) es))) e

  -- where no entry has the key, all stay
  pub cut_none_is : (k : K) (es : List (K × X)) (at : ℕ) → IsRising cmp es → at ≡ prefix_len (is_upto cmp k) es
      → (0 < at → (x : K × X) × (slice_get es (at - 1) ≡ Some x) × (is_eq (cmp k x.0) ≡ false)) → remove_entry (is_at (cmp k)) es ≡ es
  cut_none_is k es zero up is other = remove_high o k es (place_none o k es up is)
  cut_none_is k es (suc i) up is other =
      let h = other (omega arith) in
      let a = around k es (suc i) h.0 up (omega arith) is h.1 in
      ap (remove_entry (is_at (cmp k))) a.split ∙ remove_past o k (take (suc i - 1) es) (h.0 ∷ drop (suc (suc i - 1)) es) a.low
      ∙ ap (λ b. take (suc i - 1) es ++ cond b (drop (suc (suc i - 1)) es) (h.0 ∷ remove_entry (is_at (cmp k)) (drop (suc (suc i - 1)) es))) h.2
      ∙ ap (λ l. take (suc i - 1) es ++ h.0 ∷ l) (remove_high o k (drop (suc (suc i - 1)) es) a.high) ∙ sym a.split

  -- the rows that the code makes
  pub put_over : (k : K) (v : X) (es : List (K × X)) (at : ℕ) (x : K × X) (n : ℕ) (r0 r1 r2 r3 : List (K × X)) → n ≡ length es → IsRising cmp es → 0 < at → at ≡ prefix_len (is_upto cmp k) es → slice_get es (at - 1) ≡ Some x
      → is_eq (cmp k x.0) ≡ true → r0 ≡ [] → r1 ≡ r0 ++ take (at - 1 - 0) (drop 0 es) → r2 ≡ r1 ++ (x.0, v) ∷ [] → r3 ≡ r2 ++ take (n - at) (drop at es) → r3 ≡ insert_entry cmp es k v
  put_over k v es at x m r0 r1 r2 r3 ml up some is got e e0 e1 e2 e3' =
      let e3 = e3' ∙ ap (λ m. r2 ++ take (m - at) (drop at es)) ml in
      let n : suc (at - 1) ≡ at = omega arith in
      let f : r1 ≡ take (at - 1) es = e1 ∙ ap (λ l. l ++ take (at - 1 - 0) (drop 0 es)) e0 ∙ front_is es (at - 1) in
      e3 ∙ ap (λ l. l ++ take (length es - at) (drop at es)) (e2 ∙ ap (λ l. l ++ (x.0, v) ∷ []) f) ∙ append_assoc (take (at - 1) es) ((x.0, v) ∷ []) (take (length es - at) (drop at es))
      ∙ ap (λ l. take (at - 1) es ++ (x.0, v) ∷ l) (take_rest es at ∙ ap (λ m. drop m es) (sym n)) ∙ sym (put_there k v es (at - 1) x (around k es at x up some is got) e)

  pub put_new : (k : K) (v : X) (es : List (K × X)) (at : ℕ) (n : ℕ) (r0 r1 r2 r3 : List (K × X)) → n ≡ length es → IsRising cmp es → at ≡ prefix_len (is_upto cmp k) es
      → (0 < at → (x : K × X) × (slice_get es (at - 1) ≡ Some x) × (is_eq (cmp k x.0) ≡ false)) → r0 ≡ [] → r1 ≡ r0 ++ take (at - 0) (drop 0 es) → r2 ≡ r1 ++ (k, v) ∷ []
      → r3 ≡ r2 ++ take (n - at) (drop at es) → r3 ≡ insert_entry cmp es k v
  put_new k v es at m r0 r1 r2 r3 ml up is other e0 e1 e2 e3' =
      let e3 = e3' ∙ ap (λ m. r2 ++ take (m - at) (drop at es)) ml in
      let f : r1 ≡ take at es = e1 ∙ ap (λ l. l ++ take (at - 0) (drop 0 es)) e0 ∙ front_is es at in
      e3 ∙ ap (λ l. l ++ take (length es - at) (drop at es)) (e2 ∙ ap (λ l. l ++ (k, v) ∷ []) f) ∙ append_assoc (take at es) ((k, v) ∷ []) (take (length es - at) (drop at es))
      ∙ ap (λ l. take at es ++ (k, v) ∷ l) (take_rest es at) ∙ sym (put_new_is k v es at up is other)

  pub cut_there : (k : K) (es : List (K × X)) (at : ℕ) (x : K × X) (n : ℕ) (r0 r1 r2 : List (K × X)) → n ≡ length es → IsRising cmp es → 0 < at → at ≡ prefix_len (is_upto cmp k) es → slice_get es (at - 1) ≡ Some x
      → is_eq (cmp k x.0) ≡ true → r0 ≡ [] → r1 ≡ r0 ++ take (at - 1 - 0) (drop 0 es) → r2 ≡ r1 ++ take (n - at) (drop at es) → r2 ≡ remove_entry (is_at (cmp k)) es
  cut_there k es at x m r0 r1 r2 ml up some is got e e0 e1 e2' =
      let e2 = e2' ∙ ap (λ m. r1 ++ take (m - at) (drop at es)) ml in
      let n : suc (at - 1) ≡ at = omega arith in
      let i = at - 1 in
      let a = around k es at x up some is got in
      let f : r1 ≡ take i es = e1 ∙ ap (λ l. l ++ take (at - 1 - 0) (drop 0 es)) e0 ∙ front_is es i in
      e2 ∙ ap (λ l. l ++ take (length es - at) (drop at es)) f ∙ ap (λ l. take i es ++ l) (take_rest es at ∙ ap (λ m. drop m es) (sym n))
      ∙ sym (cut_there_is k es i x a e)

  pub cut_none : (k : K) (es : List (K × X)) (at : ℕ) (n : ℕ) (r0 r1 : List (K × X)) → n ≡ length es → IsRising cmp es → at ≡ prefix_len (is_upto cmp k) es
      → (0 < at → (x : K × X) × (slice_get es (at - 1) ≡ Some x) × (is_eq (cmp k x.0) ≡ false)) → r0 ≡ [] → r1 ≡ r0 ++ take (n - 0) (drop 0 es) → r1 ≡ remove_entry (is_at (cmp k)) es
  cut_none k es at m r0 r1 ml up is other e0 e1' =
      let e1 = e1' ∙ ap (λ m. r0 ++ take (m - 0) (drop 0 es)) ml in
      e1 ∙ ap (λ l. l ++ take (length es - 0) (drop 0 es)) e0 ∙ take_rest es 0 ∙ sym (cut_none_is k es at up is other)
