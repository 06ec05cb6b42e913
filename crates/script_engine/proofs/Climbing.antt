-- Names from an object up to the root.
use Rattle.std.proofs.Common.{◌≡◌, ◌≢◌, ◌<◌, ◌≤◌, ◌+◌, ◌⊎◌, ℕ, zero, suc, inl, inr, Bool, true, false, cond, eqb, List, [], ◌∷◌, ◌++◌, length, Option, Some, None, refl, sym, ap, ◌∙◌, subst, append_assoc, arith}
use Rattle.std.proofs.lemmas.Bool.Decides.{nat_tests}
use Rattle.std.specs.Prelude.{if◌then◌else◌, option_map}
use Rattle.frs_base.specs.Options.{In}
use Rattle.vol_state.specs.declared.object.Object.{Object}
use Rattle.vol_state.specs.Places.{object_at}
use Rattle.vol_state.specs.Tree.{AreRising}
use Rattle.script_engine.specs.Rows.{names_up, place_in}
use Rattle.script_engine.proofs.Members.{levels_fit}

-- ---- objects by number

pub there : (low fid : ℕ) (o : Object) (os : List Object) → AreRising low os → object_at os fid ≡ Some o → (o.fid ≡ fid) × (low < fid) × In o os
there low fid o [] r e = absurd (cc)
there low fid o (x ∷ xs) r e = by (eqb x.fid fid) refl e (there x.fid fid o xs r.1)
  where
    by : (b : Bool) → eqb x.fid fid ≡ b → cond b (Some x) (object_at xs fid) ≡ Some o → (object_at xs fid ≡ Some o → (o.fid ≡ fid) × (x.fid < fid) × In o xs) → (o.fid ≡ fid) × (low < fid) × In o (x ∷ xs)
    by true t e more =
        let same : x ≡ o = cc in
        let is : x.fid ≡ fid = grind (arith, nat_tests) in
        let up : low < x.fid = r.0 in
        (ap (λ y. y.fid) (sym same) ∙ is, omega arith, inl (sym same))
    by false t e more =
        let (is, up, h) = more e in
        let first : low < x.fid = r.0 in
        (is, omega arith, inr h)

pub rises : (low : ℕ) (o : Object) (os : List Object) → AreRising low os → In o os → low < o.fid
rises low o [] r h = absurd h
rises low o (x ∷ xs) r (inl e) = subst (λ y. low < y.fid) (sym e) r.0
rises low o (x ∷ xs) r (inr h) = let more = rises x.fid o xs r.1 h in let first : low < x.fid = r.0 in omega arith

pub at_number : (low : ℕ) (o : Object) (os : List Object) → AreRising low os → In o os → object_at os o.fid ≡ Some o
at_number low o [] r h = absurd h
at_number low o (x ∷ xs) r (inl e) = by (eqb x.fid o.fid) refl
  where
    same : x.fid ≡ o.fid
    same = ap (λ y. y.fid) (sym e)

    by : (b : Bool) → eqb x.fid o.fid ≡ b → cond b (Some x) (object_at xs o.fid) ≡ Some o
    by true t = ap Some (sym e)
    by false t = absurd (let s = same in grind (arith, nat_tests))
at_number low o (x ∷ xs) r (inr h) = by (eqb x.fid o.fid) refl (at_number x.fid o xs r.1 h) (rises x.fid o xs r.1 h)
  where
    by : (b : Bool) → eqb x.fid o.fid ≡ b → object_at xs o.fid ≡ Some o → x.fid < o.fid → cond b (Some x) (object_at xs o.fid) ≡ Some o
    by true t e l = absurd (grind (arith, nat_tests))
    by false t e l = e

-- ---- one step

-- the place is in the root, or in an object from which the rest of the names lead up
abbrev pub Up : List Object → ℕ → (ℕ × List ℕ) → List (List ℕ) → Type 0
Up objects n p names =
    ((p.0 ≡ 0) × (names ≡ p.1 ∷ []))
    ⊎ ((d : Object) × (rest : List (List ℕ)) × (p.0 ≢ 0) × (object_at objects p.0 ≡ Some d) × (names_up objects n d.place ≡ Some rest) × (names ≡ p.1 ∷ rest))

pub steps_up : (objects : List Object) (n : ℕ) (p : ℕ × List ℕ) (names : List (List ℕ)) → names_up objects (suc n) (Some p) ≡ Some names → Up objects n p names
steps_up objects n p names e = by (eqb p.0 0) refl e
  where
    rest_of : (found : Option Object) → object_at objects p.0 ≡ found → p.0 ≢ 0 → (r : Option (List (List ℕ))) → names_up objects n (place_in found) ≡ r
        → option_map (λ names. p.1 ∷ names) r ≡ Some names → Up objects n p names
    rest_of found at far None u e = absurd (cc)
    rest_of None at far (Some rest) u e = absurd (nowhere n u)
      where
        nowhere : (n : ℕ) → names_up objects n None ≡ Some rest → ⊥
        nowhere zero u = cc
        nowhere (suc n) u = cc
    rest_of (Some d) at far (Some rest) u e = inr (d, rest, far, at, u, cc)

    by : (b : Bool) → eqb p.0 0 ≡ b → (if b then Some (p.1 ∷ []) else option_map (λ names. p.1 ∷ names) (names_up objects n (place_in (object_at objects p.0)))) ≡ Some names → Up objects n p names
    by true t e = inl (grind (arith, nat_tests), cc)
    by false t e = rest_of (object_at objects p.0) refl (λ s. grind (arith, nat_tests)) (names_up objects n (place_in (object_at objects p.0))) refl e

pub up_by : (objects : List Object) (n : ℕ) (p : ℕ × List ℕ) (names : List (List ℕ)) → Up objects n p names → names_up objects (suc n) (Some p) ≡ Some names
up_by objects n p names (inl (root, is)) = by (eqb p.0 0) refl
  where
    by : (b : Bool) → eqb p.0 0 ≡ b → (if b then Some (p.1 ∷ []) else option_map (λ names. p.1 ∷ names) (names_up objects n (place_in (object_at objects p.0)))) ≡ Some names
    by true t = ap Some (sym is)
    by false t = absurd (grind (arith, nat_tests))
up_by objects n p names (inr (d, rest, far, at, up, is)) = by (eqb p.0 0) refl
  where
    by : (b : Bool) → eqb p.0 0 ≡ b → (if b then Some (p.1 ∷ []) else option_map (λ names. p.1 ∷ names) (names_up objects n (place_in (object_at objects p.0)))) ≡ Some names
    by true t = absurd (far (grind (arith, nat_tests)))
    by false t = ap (λ o. option_map (λ names. p.1 ∷ names) (names_up objects n (place_in o))) at ∙ ap (option_map (λ names. p.1 ∷ names)) up ∙ ap Some (sym is)

-- ---- how many names are enough

pub more_up : (objects : List Object) (n m : ℕ) (place : Option (ℕ × List ℕ)) (names : List (List ℕ)) → names_up objects n place ≡ Some names → n ≤ m → names_up objects m place ≡ Some names
more_up objects zero m place names e le = absurd (cc)
more_up objects (suc n) zero place names e le = absurd (omega arith)
more_up objects (suc n) (suc m) None names e le = absurd (cc)
more_up objects (suc n) (suc m) (Some p) names e le = elim (steps_up objects n p names e) [
  | inl r ↦ up_by objects m p names (inl r)
  | inr r ↦ up_by objects m p names (inr (r.0, r.1, r.2, r.3, more_up objects n m r.0.place r.1 r.4 (omega arith), r.5))
]

pub one_up : (objects : List Object) (n m : ℕ) (place : Option (ℕ × List ℕ)) (a b : List (List ℕ)) → names_up objects n place ≡ Some a → names_up objects m place ≡ Some b → a ≡ b
one_up objects n m place a b e f =
    let x = more_up objects n (n + m) place a e (omega arith) in
    let y = more_up objects m (n + m) place b f (omega arith) in
    cc

-- as many as the names are
as_many : (objects : List Object) (n : ℕ) (place : Option (ℕ × List ℕ)) (names : List (List ℕ)) → names_up objects n place ≡ Some names → names_up objects (length names) place ≡ Some names
as_many objects zero place names e = absurd (cc)
as_many objects (suc n) None names e = absurd (cc)
as_many objects (suc n) (Some p) names e = elim (steps_up objects n p names e) [
  | inl r ↦ subst (λ l. names_up objects (length l) (Some p) ≡ Some l) (sym r.1) (up_by objects 0 p (p.1 ∷ []) (inl (r.0, refl)))
  | inr r ↦ subst (λ l. names_up objects (length l) (Some p) ≡ Some l) (sym r.5)
      (up_by objects (length r.1) p (p.1 ∷ r.1) (inr (r.0, r.1, r.2, r.3, as_many objects n r.0.place r.1 r.4, refl)))
]

-- so many names and one lead from the object up to the root
abbrev pub IsDeep : List Object → ℕ → Object → Type 0
IsDeep objects i o = (n : ℕ) × (names : List (List ℕ)) × (names_up objects n o.place ≡ Some names) × (length names ≡ suc i)

one_depth : (objects : List Object) (i j : ℕ) (o : Object) → IsDeep objects i o → IsDeep objects j o → i ≡ j
one_depth objects i j o (n, a, e, x) (m, b, f, y) = let same = ap length (one_up objects n m o.place a b e f) in omega arith

-- on the way up there is an object of each depth
depths : (objects : List Object) → AreRising 0 objects → (n : ℕ) (o : Object) (place : Option (ℕ × List ℕ)) → o.place ≡ place → In o objects → (names : List (List ℕ)) → names_up objects n place ≡ Some names
    → (i : ℕ) → i < length names → (x : Object) × In x objects × IsDeep objects i x
depths objects r zero o place at h names e i l = absurd (cc)
depths objects r (suc n) o None at h names e i l = absurd (cc)
depths objects r (suc n) o (Some p) at h names e i l = by (steps_up objects n p names e) (depths objects r n)
  where
    here : i + 1 ≡ length names → (x : Object) × In x objects × IsDeep objects i x
    here is = (o, h, (suc n, names, ap (names_up objects (suc n)) at ∙ e, omega arith))

    by : Up objects n p names
        → ((d : Object) (place : Option (ℕ × List ℕ)) → d.place ≡ place → In d objects → (names : List (List ℕ)) → names_up objects n place ≡ Some names → (i : ℕ) → i < length names → (x : Object) × In x objects × IsDeep objects i x)
        → (x : Object) × In x objects × IsDeep objects i x
    by (inl (root, is)) more = here (let long = ap length is in omega arith)
    by (inr (d, rest, far, found, up, is)) more = pick (eqb i (length rest)) refl
      where
        long : length names ≡ suc (length rest)
        long = ap length is

        pick : (b : Bool) → eqb i (length rest) ≡ b → (x : Object) × In x objects × IsDeep objects i x
        pick true t = here (let s : i ≡ length rest = grind (arith, nat_tests) in let k = long in omega arith)
        pick false t =
            let s : i ≢ length rest = λ s. grind (arith, nat_tests) in
            more d d.place refl (there 0 p.0 d objects r found).2 rest up i (let k = long in omega arith)

-- no more names lead up than there are objects
pub enough : (objects : List Object) → AreRising 0 objects → (n : ℕ) (o : Object) → In o objects → (names : List (List ℕ)) → names_up objects n o.place ≡ Some names
    → names_up objects (length objects) o.place ≡ Some names
enough objects r n o h names e =
    let few = levels_fit (IsDeep objects) (one_depth objects) (length names) objects (depths objects r n o o.place refl h names e) in
    more_up objects (length names) (length objects) o.place names (as_many objects n o.place names e) few

-- ---- a climb, step by step

-- names and those behind them, if they lead anywhere
abbrev pub behind : List (List ℕ) → Option (List (List ℕ)) → Option (List (List ℕ))
behind names rest = option_map (λ more. names ++ more) rest

pub from_limbo : (objects : List Object) (n : ℕ) (place : Option (ℕ × List ℕ)) (names : List (List ℕ)) → place ≡ None → behind names (names_up objects n place) ≡ None
from_limbo objects n place names e = ap (λ p. behind names (names_up objects n p)) e ∙ by n
  where
    by : (n : ℕ) → behind names (names_up objects n None) ≡ None
    by zero = refl
    by (suc n) = refl

pub arrived : (objects : List Object) (m n : ℕ) (place : Option (ℕ × List ℕ)) (names : List (List ℕ)) (p : ℕ × List ℕ) → m ≡ suc n → place ≡ Some p → p.0 ≡ 0
    → behind names (names_up objects m place) ≡ Some (names ++ p.1 ∷ [])
arrived objects m n place names p is at root =
    (λ i. behind names (names_up objects (is i) (at i))) ∙ ap (behind names) (up_by objects n p (p.1 ∷ []) (inl (root, refl)))

pub climbed : (objects : List Object) (m n : ℕ) (place : Option (ℕ × List ℕ)) (names : List (List ℕ)) (p : ℕ × List ℕ) (up : Option Object) → m ≡ suc n → place ≡ Some p → p.0 ≢ 0 → object_at objects p.0 ≡ up
    → behind names (names_up objects m place) ≡ behind (names ++ p.1 ∷ []) (names_up objects n (place_in up))
climbed objects m n place names p up is at far found = (λ i. behind names (names_up objects (is i) (at i))) ∙ by (eqb p.0 0) refl ∙ ap (λ u. behind (names ++ p.1 ∷ []) (names_up objects n (place_in u))) found
  where
    more : (r : Option (List (List ℕ))) → behind names (option_map (λ rest. p.1 ∷ rest) r) ≡ behind (names ++ p.1 ∷ []) r
    more None = refl
    more (Some rest) = ap Some (sym (append_assoc names (p.1 ∷ []) rest))

    by : (b : Bool) → eqb p.0 0 ≡ b → behind names (if b then Some (p.1 ∷ []) else option_map (λ rest. p.1 ∷ rest) (names_up objects n (place_in (object_at objects p.0)))) ≡ behind (names ++ p.1 ∷ []) (names_up objects n (place_in (object_at objects p.0)))
    by true t = absurd (far (grind (arith, nat_tests)))
    by false t = more (names_up objects n (place_in (object_at objects p.0)))
