-- Entries that are changed in their place.
use Rattle.std.proofs.Common.{◌≡◌, ◌∙◌, ◌+◌, ◌-◌, ◌<◌, ℕ, true, false, List, [], ◌∷◌, ◌++◌, Some, None, refl, sym, ap, suc, zero, take, drop, set, arith, append_assoc}
use Rattle.std.specs.Prelude.{insert, remove, slice_get}
use Rattle.std.specs.List.{prefix_len}
use Rattle.std.proofs.lemmas.List.{map-append, reverse-append, take-map}
use mathlib.Core.List.{reverse}
use Rattle.std.specs.Arc.{arc_value}
use Rattle.std.specs.BTreeMap.{insert_entry, is_at}
use Rattle.std.specs.Map.{lookup, remove_entry}
use Rattle.std.specs.Cmp.{IsTotalOrder}
use Rattle.std.specs.Ordering.{is_eq}
use Rattle.std.specs.declared.alloc.Global.{Global}
use Rattle.std.specs.declared.cmp.Ordering.{Ordering}
use Rattle.std.specs.declared.sync.Arc.{Arc}
use Rattle.frs_pmap.specs.Entries.{IsRising, is_upto, seen, seen_one}
use Rattle.frs_pmap.proofs.Leaves.{Around, around, cut_none_is, cut_there_is, get_beside, get_none, get_there, put_new_is, put_there}
use Rattle.frs_pmap.proofs.Places.{drop-map, place_seen}

set_is : {X : Type 0} (xs : List X) (i : ℕ) (x y : X) → slice_get xs i ≡ Some x → set xs i y ≡ take i xs ++ y ∷ drop (suc i) xs
set_is [] i x y got = absurd (cc)
set_is (z ∷ xs) zero x y got = refl
set_is (z ∷ xs) (suc i) x y got = ap (λ l. z ∷ l) (set_is xs i x y got)

pub get_seen : {K V : Type 0} (es : List (K × Arc V Global)) (i : ℕ) (x : K × Arc V Global) → slice_get es i ≡ Some x → slice_get (seen es) i ≡ Some (seen_one x)
get_seen [] i x got = absurd (cc)
get_seen (e ∷ es) zero x got = let s : e ≡ x = cc in ap (λ y. Some (seen_one y)) s
get_seen (e ∷ es) (suc i) x got = get_seen es i x got

seen_split : {K V : Type 0} (es : List (K × Arc V Global)) (i j : ℕ) (m : List (K × Arc V Global)) → seen (take i es ++ (m ++ drop j es)) ≡ take i (seen es) ++ (seen m ++ drop j (seen es))
seen_split es i j m =
    map-append seen_one (take i es) (m ++ drop j es) ∙ ap (λ l. l ++ seen (m ++ drop j es)) (sym (take-map seen_one i es))
    ∙ ap (λ l. take i (seen es) ++ l) (map-append seen_one m (drop j es) ∙ ap (λ l. seen m ++ l) (sym (drop-map seen_one j es)))

module _ {K V : Type 0} {cmp : K → K → Ordering} (o : IsTotalOrder cmp) where
  -- the place among the entries that are seen
  pub seen_place : (k : K) (es : List (K × Arc V Global)) (at : ℕ) → at ≡ prefix_len (is_upto cmp k) es → at ≡ prefix_len (is_upto cmp k) (seen es)
  seen_place k es at is = is ∙ sym (place_seen cmp k es)

  around_seen : (k : K) (es : List (K × Arc V Global)) (at : ℕ) (x : K × Arc V Global) → IsRising cmp (seen es) → 0 < at → at ≡ prefix_len (is_upto cmp k) es → slice_get es (at - 1) ≡ Some x → Around o k (seen es) (at - 1) (seen_one x)
  around_seen k es at x up some is got = around o k (seen es) at (seen_one x) up some (seen_place k es at is) (get_seen es (at - 1) x got)

  pub slot_over : (k : K) (v : Arc V Global) (es : List (K × Arc V Global)) (at : ℕ) (x : K × Arc V Global) → IsRising cmp (seen es) → 0 < at → at ≡ prefix_len (is_upto cmp k) es → slice_get es (at - 1) ≡ Some x → is_eq (cmp k x.0) ≡ true
      → seen (set es (at - 1) (x.0, v)) ≡ insert_entry cmp (seen es) k (arc_value v)
  slot_over k v es at x up some is got e =
      ap seen (set_is es (at - 1) x (x.0, v) got) ∙ seen_split es (at - 1) (suc (at - 1)) ((x.0, v) ∷ [])
      ∙ sym (put_there o k (arc_value v) (seen es) (at - 1) (seen_one x) (around_seen k es at x up some is got) e)

  pub slot_new : (k : K) (v : Arc V Global) (es : List (K × Arc V Global)) (at : ℕ) → IsRising cmp (seen es) → at ≡ prefix_len (is_upto cmp k) es
      → (0 < at → (x : K × Arc V Global) × (slice_get es (at - 1) ≡ Some x) × (is_eq (cmp k x.0) ≡ false)) → seen (insert es at (k, v)) ≡ insert_entry cmp (seen es) k (arc_value v)
  slot_new k v es at up is other =
      seen_split es at at ((k, v) ∷ [])
      ∙ sym (put_new_is o k (arc_value v) (seen es) at up (seen_place k es at is) (λ some. let h = other some in (seen_one h.0, get_seen es (at - 1) h.0 h.1, h.2)))

  pub slot_cut : (k : K) (es : List (K × Arc V Global)) (at : ℕ) (x : K × Arc V Global) → IsRising cmp (seen es) → 0 < at → at ≡ prefix_len (is_upto cmp k) es → slice_get es (at - 1) ≡ Some x → is_eq (cmp k x.0) ≡ true
      → seen (remove es (at - 1)) ≡ remove_entry (is_at (cmp k)) (seen es)
  slot_cut k es at x up some is got e =
      seen_split es (at - 1) (suc (at - 1)) [] ∙ sym (cut_there_is o k (seen es) (at - 1) (seen_one x) (around_seen k es at x up some is got) e)

  pub slot_stays : (k : K) (es : List (K × Arc V Global)) (at : ℕ) → IsRising cmp (seen es) → at ≡ prefix_len (is_upto cmp k) es
      → (0 < at → (x : K × Arc V Global) × (slice_get es (at - 1) ≡ Some x) × (is_eq (cmp k x.0) ≡ false)) → seen es ≡ remove_entry (is_at (cmp k)) (seen es)
  slot_stays k es at up is other =
      sym (cut_none_is o k (seen es) at up (seen_place k es at is) (λ some. let h = other some in (seen_one h.0, get_seen es (at - 1) h.0 h.1, h.2)))

  pub slot_value : (k : K) (es : List (K × Arc V Global)) (at : ℕ) (x : K × Arc V Global) → IsRising cmp (seen es) → 0 < at → at ≡ prefix_len (is_upto cmp k) es → slice_get es (at - 1) ≡ Some x → is_eq (cmp k x.0) ≡ true
      → Some (arc_value x.1) ≡ lookup (is_at (cmp k)) (seen es)
  slot_value k es at x up some is got e = sym (get_there o k (seen es) (at - 1) (seen_one x) (around_seen k es at x up some is got) e)

  pub slot_missing : (k : K) (es : List (K × Arc V Global)) (at : ℕ) → IsRising cmp (seen es) → at ≡ prefix_len (is_upto cmp k) es
      → (0 < at → (x : K × Arc V Global) × (slice_get es (at - 1) ≡ Some x) × (is_eq (cmp k x.0) ≡ false)) → None ≡ lookup (is_at (cmp k)) (seen es)
  slot_missing k es zero up is other = sym (get_none o k (seen es) 0 up (omega arith) (seen_place k es 0 is))
  slot_missing k es (suc i) up is other = let h = other (omega arith) in sym (get_beside o k (seen es) (suc i - 1) (seen_one h.0) (around_seen k es (suc i) h.0 up (omega arith) is h.1) h.2)

-- one place has one value
pub one_read : {X : Type 0} (xs : List X) (i : ℕ) (x y : X) → slice_get xs i ≡ Some x → slice_get xs i ≡ Some y → x ≡ y
one_read xs i x y p q = cc

pub moved : {X : Type 0} (old new back init : List X) (item : X) → old ≡ new ++ item ∷ [] → old ++ reverse back ≡ init → new ++ reverse (back ++ item ∷ []) ≡ init
moved old new back init item e h = ap (λ l. new ++ l) (reverse-append back (item ∷ [])) ∙ sym (append_assoc new (item ∷ []) (reverse back)) ∙ ap (λ l. l ++ reverse back) (sym e) ∙ h

-- one more of those that are taken
pub one_taken : {X : Type 0} (ys : List X) (at : ℕ) (y : X) → slice_get ys at ≡ Some y → take at ys ++ y ∷ [] ≡ take (at + 1) ys
one_taken [] at y got = absurd (cc)
one_taken (z ∷ ys) zero y got = let s : z ≡ y = cc in ap (λ w. w ∷ []) (sym s)
one_taken (z ∷ ys) (suc at) y got = let n : suc at + 1 ≡ suc (at + 1) = omega arith in ap (λ l. z ∷ l) (one_taken ys at y got) ∙ sym (ap (λ m. take m (z ∷ ys)) n)
