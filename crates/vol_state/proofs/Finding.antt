-- What is found in a list of objects after a change.
use Rattle.std.proofs.Common.{◌≡◌, ◌≢◌, ◌<◌, ◌≤◌, inl, inr, ℕ, suc, true, false, cond, eqb, List, [], ◌∷◌, ◌++◌, length, Some, None, refl, sym, ap, ◌∙◌, subst, arith}
use Rattle.std.proofs.lemmas.Bool.Decides.{nat_tests, eqb_tells}
use Rattle.vol_state.specs.declared.object.Object.{Object}
use Rattle.vol_state.specs.Places.{object_at}
use Rattle.vol_state.specs.Tree.{AreRising}
use Rattle.frs_base.specs.Options.{In}
use Rattle.vol_state.specs.Effects.{edit, without}
use Rattle.vol_state.proofs.Climbing.{differ, by_cases}

KeepsFid : (Object → Object) → Type 0
KeepsFid f = (o : Object) → (f o).fid ≡ o.fid

pub at_edit_other : (f : Object → Object) → ((o : Object) → (f o).fid ≡ o.fid) → (fid x : ℕ) → x ≢ fid → (os : List Object) → object_at (edit fid f os) x ≡ object_at os x
at_edit_other f keeps fid x d [] = refl
at_edit_other f keeps fid x d (o ∷ os) =
    let more = at_edit_other f keeps fid x d os in
    by_cases (eqb_tells o.fid fid)
    (λ t. let h : eqb (f o).fid x ≡ false = differ (f o).fid x (λ e. d (sym e ∙ keeps o ∙ t.1)) in
    let k : eqb o.fid x ≡ false = differ o.fid x (λ e. d (sym e ∙ t.1)) in
    rw t.0 (rw h (rw k refl)))
    (λ t. rw t.0 (ap (cond (eqb o.fid x) (Some o)) more))

pub at_edit_same : (f : Object → Object) → ((o : Object) → (f o).fid ≡ o.fid) → (fid : ℕ) (o : Object) (os : List Object) → object_at os fid ≡ Some o → object_at (edit fid f os) fid ≡ Some (f o)
at_edit_same f keeps fid o [] e = absurd (cc)
at_edit_same f keeps fid o (x ∷ os) e =
    by_cases (eqb_tells x.fid fid)
    (λ t. let h : eqb (f x).fid fid ≡ true = ap (λ n. eqb n fid) (keeps x) ∙ t.0 in
    let s : Some x ≡ Some o = sym (ap (λ b. cond b (Some x) (object_at os fid)) t.0) ∙ e in
    rw t.0 (rw h (ap (λ y. Some (f y)) (some_same x o s))))
    (λ t. let r : object_at os fid ≡ Some o = sym (ap (λ b. cond b (Some x) (object_at os fid)) t.0) ∙ e in
    rw t.0 (rw t.0 (at_edit_same f keeps fid o os r)))
  where
    some_same : (a b : Object) → Some a ≡ Some b → a ≡ b
    some_same a b e = cc

pub at_without_other : (fid x : ℕ) → x ≢ fid → (os : List Object) → object_at (without fid os) x ≡ object_at os x
at_without_other fid x d [] = refl
at_without_other fid x d (o ∷ os) =
    by_cases (eqb_tells o.fid fid)
    (λ t. let k : eqb o.fid x ≡ false = differ o.fid x (λ e. d (sym e ∙ t.1)) in rw t.0 (rw k refl))
    (λ t. rw t.0 (ap (cond (eqb o.fid x) (Some o)) (at_without_other fid x d os)))

-- above all that is there
pub at_low : (low fid : ℕ) → fid ≤ low → (os : List Object) → AreRising low os → object_at os fid ≡ None
at_low low fid le [] r = refl
at_low low fid le (o ∷ os) r =
    let k : eqb o.fid fid ≡ false = differ o.fid fid (λ e. omega (arith, r.0, e, le)) in
    rw k (at_low o.fid fid (omega (arith, r.0, le)) os r.1)

pub at_without_same : (low fid : ℕ) (os : List Object) → AreRising low os → object_at (without fid os) fid ≡ None
at_without_same low fid [] r = refl
at_without_same low fid (o ∷ os) r =
    by_cases (eqb_tells o.fid fid)
    (λ t. rw t.0 (at_low o.fid fid (omega (arith, t.1)) os r.1))
    (λ t. rw t.0 (rw t.0 (at_without_same o.fid fid os r.1)))

pub at_push_other : (n : Object) (x : ℕ) → x ≢ n.fid → (os : List Object) → object_at (os ++ n ∷ []) x ≡ object_at os x
at_push_other n x d [] = rw (differ n.fid x (λ e. d (sym e))) refl
at_push_other n x d (o ∷ os) = ap (cond (eqb o.fid x) (Some o)) (at_push_other n x d os)

pub at_in : (fid : ℕ) (o : Object) (os : List Object) → object_at os fid ≡ Some o → In o os × (o.fid ≡ fid)
at_in fid o [] e = absurd (cc)
at_in fid o (x ∷ os) e =
    by_cases (eqb_tells x.fid fid)
    (λ t. let s : x ≡ o = some_same x o (sym (ap (λ b. cond b (Some x) (object_at os fid)) t.0) ∙ e) in
    (inl (sym s), ap (λ y. y.fid) (sym s) ∙ t.1))
    (λ t. let r = at_in fid o os (sym (ap (λ b. cond b (Some x) (object_at os fid)) t.0) ∙ e) in (inr r.0, r.1))
  where
    some_same : (a b : Object) → Some a ≡ Some b → a ≡ b
    some_same a b e = cc

pub in_above : (low : ℕ) (o : Object) (os : List Object) → AreRising low os → In o os → low < o.fid
in_above low o [] r i = absurd i
in_above low o (x ∷ os) r i =
    by_cases i
    (λ e. subst (λ y. low < y.fid) (sym e) r.0)
    (λ j. omega (arith, r.0, in_above x.fid o os r.1 j))

pub in_at : (low : ℕ) (o : Object) (os : List Object) → AreRising low os → In o os → object_at os o.fid ≡ Some o
in_at low o [] r i = absurd i
in_at low o (x ∷ os) r i =
    by_cases i
    (λ e. let t : eqb x.fid o.fid ≡ true = ap (λ y. eqb x.fid y.fid) e ∙ same x.fid in rw t (ap Some (sym e)))
    (λ j. let d : eqb x.fid o.fid ≡ false = differ x.fid o.fid (λ e. omega (arith, e, in_above x.fid o os r.1 j)) in rw d (in_at x.fid o os r.1 j))
  where
    same : (n : ℕ) → eqb n n ≡ true
    same n = grind (arith, nat_tests)

pub length_without : (fid : ℕ) (o : Object) (os : List Object) → object_at os fid ≡ Some o → length os ≡ suc (length (without fid os))
length_without fid o [] e = absurd (cc)
length_without fid o (x ∷ os) e =
    by_cases (eqb_tells x.fid fid)
    (λ t. rw t.0 refl)
    (λ t. rw t.0 (ap suc (length_without fid o os (sym (ap (λ b. cond b (Some x) (object_at os fid)) t.0) ∙ e))))
