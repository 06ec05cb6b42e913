-- The first entry at a key or above it.
use Rattle.std.proofs.Common.{◌≡◌, ◌∙◌, ◌+◌, ◌≤◌, ℕ, Bool, true, false, not, cond, List, [], ◌∷◌, ◌++◌, Option, Some, None, refl, sym, ap, suc, zero, length, take, drop, arith}
use Rattle.std.specs.Prelude.{find, option_map, slice_get}
use Rattle.std.specs.Option.{is_some}
use Rattle.std.specs.List.{prefix_len}
use Rattle.std.proofs.lemmas.List.{drop_all}
use Rattle.std.specs.Cmp.{IsTotalOrder}
use Rattle.std.specs.Ordering.{is_le, is_lt}
use Rattle.std.specs.declared.cmp.Ordering.{Ordering}
use Rattle.std.specs.declared.cmp.Ordering.TheVariants.{Less, Equal, Greater}
use Rattle.frs_pmap.specs.Entries.{is_above, is_below, is_beyond, is_from, is_upto}
use Rattle.frs_pmap.specs.Trees.{HasHead}
use Rattle.frs_pmap.proofs.Orders.{AllHigh, AllLow, turned}
use Rattle.frs_pmap.proofs.Parts.{Between, flat_by}

-- the first that meets a test stands behind all that first fail it
find_not : {X : Type 0} (p q : X → Bool) (es : List X) → ((x : X) → p x ≡ not (q x)) → slice_get es (prefix_len q es) ≡ find p es
find_not p q [] h = refl
find_not p q (e ∷ es) h = ap (λ n. slice_get (e ∷ es) n) refl ∙ by (q e) (h e) (find_not p q es h)
  where
    by : (b : Bool) → p e ≡ not b → slice_get es (prefix_len q es) ≡ find p es → slice_get (e ∷ es) (cond b (1 + prefix_len q es) 0) ≡ find p (e ∷ es)
    by true n i = let s : 1 + prefix_len q es ≡ suc (prefix_len q es) = omega arith in ap (slice_get (e ∷ es)) s ∙ i ∙ sym (ap (λ b. cond b (Some e) (find p es)) n)
    by false n i = sym (ap (λ b. cond b (Some e) (find p es)) n)

module _ {K V : Type 0} {cmp : K → K → Ordering} (o : IsTotalOrder cmp) where
  above_is : (k : K) (e : K × V) → is_above cmp k e ≡ not (is_upto cmp k e)
  above_is k e = by (cmp e.0 k) refl
    where
      by : (r : Ordering) → cmp e.0 k ≡ r → is_lt (cmp k e.0) ≡ not (is_le (cmp e.0 k))
      by Less c = ap is_lt (turned o k e.0 Less c) ∙ sym (ap (λ r. not (is_le r)) c)
      by Equal c = ap is_lt (turned o k e.0 Equal c) ∙ sym (ap (λ r. not (is_le r)) c)
      by Greater c = ap is_lt (turned o k e.0 Greater c) ∙ sym (ap (λ r. not (is_le r)) c)

  from_is : (k : K) (e : K × V) → is_from cmp k e ≡ not (is_below cmp k e)
  from_is k e = by (cmp e.0 k) refl
    where
      by : (r : Ordering) → cmp e.0 k ≡ r → is_le (cmp k e.0) ≡ not (is_lt (cmp e.0 k))
      by Less c = ap is_le (turned o k e.0 Less c) ∙ sym (ap (λ r. not (is_lt r)) c)
      by Equal c = ap is_le (turned o k e.0 Equal c) ∙ sym (ap (λ r. not (is_lt r)) c)
      by Greater c = ap is_le (turned o k e.0 Greater c) ∙ sym (ap (λ r. not (is_lt r)) c)

  pub above_place : (k : K) (es : List (K × V)) → slice_get es (prefix_len (is_upto cmp k) es) ≡ find (is_above cmp k) es
  above_place k es = find_not (is_above cmp k) (is_upto cmp k) es (above_is k)

  pub from_place : (k : K) (es : List (K × V)) → slice_get es (prefix_len (is_below cmp k) es) ≡ find (is_from cmp k) es
  from_place k es = find_not (is_from cmp k) (is_below cmp k) es (from_is k)

  -- ---- among parts

  low_fails : (past : Bool) (k : K) (e : K × V) → cmp e.0 k ≡ Less → is_beyond cmp past k e ≡ false
  low_fails true k e c = ap is_lt (turned o k e.0 Less c)
  low_fails false k e c = ap is_le (turned o k e.0 Less c)

  high_passes : (past : Bool) (k : K) (e : K × V) → cmp k e.0 ≡ Less → is_beyond cmp past k e ≡ true
  high_passes true k e c = ap is_lt c
  high_passes false k e c = ap is_le c

  find_low : (past : Bool) (k : K) (a b : List (K × V)) → AllLow o k a → find (is_beyond cmp past k) (a ++ b) ≡ find (is_beyond cmp past k) b
  find_low past k [] b h = refl
  find_low past k (e ∷ a) b h = ap (λ t. cond t (Some e) (find (is_beyond cmp past k) (a ++ b))) (low_fails past k e h.0) ∙ find_low past k a b h.1

  find_high : (past : Bool) (k : K) (b : List (K × V)) → AllHigh o k b → find (is_beyond cmp past k) b ≡ slice_get b 0
  find_high past k [] h = refl
  find_high past k (e ∷ b) h = ap (λ t. cond t (Some e) (find (is_beyond cmp past k) b)) (high_passes past k e h.0)

  find_some : (p : K × V → Bool) (a b : List (K × V)) (x : K × V) → find p a ≡ Some x → find p (a ++ b) ≡ Some x
  find_some p [] b x e = absurd (cc)
  find_some p (y ∷ a) b x e = by (p y) e (find_some p a b x)
    where
      by : (t : Bool) → cond t (Some y) (find p a) ≡ Some x → (find p a ≡ Some x → find p (a ++ b) ≡ Some x) → cond t (Some y) (find p (a ++ b)) ≡ Some x
      by true e i = e
      by false e i = i e

  find_none : (p : K × V → Bool) (a b : List (K × V)) → find p a ≡ None → find p (a ++ b) ≡ find p b
  find_none p [] b e = refl
  find_none p (y ∷ a) b e = by (p y) e (find_none p a b)
    where
      by : (t : Bool) → cond t (Some y) (find p a) ≡ None → (find p a ≡ None → find p (a ++ b) ≡ find p b) → cond t (Some y) (find p (a ++ b)) ≡ find p b
      by true e i = absurd (cc)
      by false e i = i e

  module _ {P : Type 0} (f : P → List (K × V)) where
    next_here : (past : Bool) (k : K) (cs : List (K × P)) (i : ℕ) (c : K × P) (x : K × V) → Between o f k cs i c → find (is_beyond cmp past k) (f c.1) ≡ Some x → find (is_beyond cmp past k) (flat_by o f cs) ≡ Some x
    next_here past k cs i c x b e =
        ap (find (is_beyond cmp past k)) b.split ∙ find_low past k (flat_by o f (take i cs)) (f c.1 ++ flat_by o f (drop (suc i) cs)) b.low
        ∙ find_some (is_beyond cmp past k) (f c.1) (flat_by o f (drop (suc i) cs)) x e

    next_later : (past : Bool) (k : K) (cs : List (K × P)) (i : ℕ) (c : K × P) → Between o f k cs i c → find (is_beyond cmp past k) (f c.1) ≡ None
        → find (is_beyond cmp past k) (flat_by o f cs) ≡ slice_get (flat_by o f (drop (i + 1) cs)) 0
    next_later past k cs i c b e =
        let n : suc i ≡ i + 1 = omega arith in
        ap (find (is_beyond cmp past k)) b.split ∙ find_low past k (flat_by o f (take i cs)) (f c.1 ++ flat_by o f (drop (suc i) cs)) b.low
        ∙ find_none (is_beyond cmp past k) (f c.1) (flat_by o f (drop (suc i) cs)) e ∙ find_high past k (flat_by o f (drop (suc i) cs)) b.high
        ∙ ap (λ m. slice_get (flat_by o f (drop m cs)) 0) n

    -- the first of the parts from a place on is that of the part there
    pub first_there : (cs : List (K × P)) (at : ℕ) (c : K × P) → slice_get cs at ≡ Some c → HasHead c.0 (f c.1) → slice_get (flat_by o f (drop at cs)) 0 ≡ slice_get (f c.1) 0
    first_there [] at c e h = absurd (cc)
    first_there (d ∷ cs) zero c e h = let s : d ≡ c = cc in ap (λ (z : K × P). slice_get (f z.1 ++ flat_by o f cs) 0) s ∙ by (f c.1) h
      where
        by : (l : List (K × V)) → HasHead c.0 l → slice_get (l ++ flat_by o f cs) 0 ≡ slice_get l 0
        by [] h = absurd h
        by (x ∷ l) h = refl
    first_there (d ∷ cs) (suc at) c e h = first_there cs at c e h

    pub first_past : (cs : List (K × P)) (at : ℕ) → length cs ≤ at → slice_get (flat_by o f (drop at cs)) 0 ≡ None
    first_past cs at h = ap (λ l. slice_get (flat_by o f l) 0) (drop_all at cs h)

    -- it is found in the part that the key is in, or is the first of the parts behind it
    pub found_here : {A : Type 0} (h : A → K × V) (r : Option A) (past : Bool) (k : K) (cs : List (K × P)) (i : ℕ) (c : K × P) → Between o f k cs i c → option_map h r ≡ find (is_beyond cmp past k) (f c.1) → is_some r ≡ true
        → option_map h r ≡ find (is_beyond cmp past k) (flat_by o f cs)
    found_here h None past k cs i c b e s = absurd (cc)
    found_here h (Some x) past k cs i c b e s = sym (next_here past k cs i c (h x) b (sym e))

    pub found_later : {A : Type 0} (h : A → K × V) (r : Option A) (past : Bool) (k : K) (cs : List (K × P)) (i : ℕ) (c : K × P) → Between o f k cs i c → option_map h r ≡ find (is_beyond cmp past k) (f c.1) → is_some r ≡ false
        → find (is_beyond cmp past k) (flat_by o f cs) ≡ slice_get (flat_by o f (drop (i + 1) cs)) 0
    found_later h None past k cs i c b e s = next_later past k cs i c b (sym e)
    found_later h (Some x) past k cs i c b e s = absurd (cc)
