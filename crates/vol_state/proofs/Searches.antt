-- A search by number, in a list whose numbers rise.
use Rattle.std.proofs.Common.{◌≡◌, ◌≢◌, ◌<◌, ◌≤◌, ⊎_elim, ℕ, zero, suc, Bool, true, false, eqb, ltb, List, [], ◌∷◌, length, get_or, Some, None, refl, sym, ap, ◌∙◌, arith}
use Rattle.std.proofs.lemmas.Bool.Decides.{nat_tests}
use Rattle.std.proofs.lemmas.Bool.{cases_lt}
use Rattle.std.proofs.lemmas.List.Folds.{find_at}
use Rattle.std.specs.Prelude.{slice_get}
use Rattle.std.specs.List.{position, position_or_len}
use Rattle.std.specs.List.Sorted.{IsNonDecreasingBy, IsPartitionPoint}
use Rattle.vol_state.specs.declared.object.Object.{Object}
use Rattle.vol_state.specs.Places.{object_at}
use Rattle.vol_state.specs.Tree.{AreRising}
use Rattle.vol_state.proofs.Climbing.{differ}
use Rattle.vol_state.proofs.Edits.{has_fid, one_more, placed, not_placed}

above_low : (low : ℕ) (os : List Object) → AreRising low os → (k : ℕ) (d : Object) → k < length os → low ≤ (get_or os k d).fid
above_low low [] r k d l = absurd (omega arith)
above_low low (o ∷ os) r zero d l = let h = r.0 in omega arith
above_low low (o ∷ os) r (suc k) d l = let h = r.0 in let m = above_low o.fid os r.1 k d (omega arith) in omega arith

pub rising_by : (low : ℕ) (os : List Object) → AreRising low os → IsNonDecreasingBy (λ o. o.fid) os
rising_by low [] r i j d le l = absurd (omega arith)
rising_by low (o ∷ os) r zero zero d le l = omega arith
rising_by low (o ∷ os) r zero (suc j) d le l = above_low o.fid os r.1 j d (omega arith)
rising_by low (o ∷ os) r (suc i) zero d le l = absurd (omega arith)
rising_by low (o ∷ os) r (suc i) (suc j) d le l = rising_by o.fid os r.1 i j d (omega arith) (omega arith)

first_here : (fid : ℕ) (os : List Object) (i : ℕ) (d : Object) → ((k : ℕ) → k < i → (get_or os k d).fid ≢ fid) → i < length os → (get_or os i d).fid ≡ fid → position_or_len (has_fid fid) os ≡ i
first_here fid [] i d before l e = absurd (omega arith)
first_here fid (o ∷ os) zero d before l e = let t : eqb o.fid fid ≡ true = grind (arith, nat_tests) in rw t refl
first_here fid (o ∷ os) (suc i) d before l e =
    let t : eqb o.fid fid ≡ false = differ o.fid fid (before 0 (omega arith)) in
    let r = first_here fid os i d (λ k m. before (suc k) (omega arith)) (omega arith) e in
    rw t (one_more (position_or_len (has_fid fid) os) ∙ ap suc r)

nowhere : (fid : ℕ) (os : List Object) (d : Object) → ((k : ℕ) → k < length os → (get_or os k d).fid ≢ fid) → position_or_len (has_fid fid) os ≡ length os
nowhere fid [] d none = refl
nowhere fid (o ∷ os) d none =
    let t : eqb o.fid fid ≡ false = differ o.fid fid (none 0 (omega arith)) in
    let r = nowhere fid os d (λ k m. none (suc k) (omega arith)) in
    rw t (one_more (position_or_len (has_fid fid) os) ∙ ap suc r)

position_some : (p : Object → Bool) (os : List Object) (i : ℕ) → position_or_len p os ≡ i → i < length os → position p os ≡ Some i
position_some p os i e l = let t : ltb (position_or_len p os) (length os) ≡ true = grind (arith, nat_tests) in rw t (ap Some e)

position_none : (p : Object → Bool) (os : List Object) → position_or_len p os ≡ length os → position p os ≡ None
position_none p os e = let t : ltb (position_or_len p os) (length os) ≡ false = grind (arith, nat_tests) in rw t refl

pub search_some : (fid : ℕ) (os : List Object) (i : ℕ) (d : Object) → IsPartitionPoint (λ o. ltb o.fid fid ≡ true) (λ o. ltb o.fid fid ≡ false) os i → i < length os → (get_or os i d).fid ≡ fid → Some i ≡ position (has_fid fid) os
search_some fid os i d p l e = sym (position_some (has_fid fid) os i (first_here fid os i d (λ k m s. before k (p.0 k d (omega arith) m) s) l e) l)
  where
    before : (k : ℕ) → ltb (get_or os k d).fid fid ≡ true → (get_or os k d).fid ≡ fid → ⊥
    before k t s = grind (arith, nat_tests)

pub search_none : (fid : ℕ) (os : List Object) (i : ℕ) → AreRising 0 os → IsPartitionPoint (λ o. ltb o.fid fid ≡ true) (λ o. ltb o.fid fid ≡ false) os i → ((d : Object) → i < length os → (get_or os i d).fid ≢ fid) → None ≡ position (has_fid fid) os
search_none fid [] i r p other = refl
search_none fid (o ∷ os) i r p other = sym (position_none (has_fid fid) (o ∷ os) (nowhere fid (o ∷ os) o (λ k l. away k l)))
  where
    below : (k : ℕ) → ltb (get_or (o ∷ os) k o).fid fid ≡ true → (get_or (o ∷ os) k o).fid ≢ fid
    below k t s = grind (arith, nat_tests)

    from : (k : ℕ) → i ≤ k → k < length (o ∷ os) → ltb (get_or (o ∷ os) i o).fid fid ≡ false → (get_or (o ∷ os) k o).fid ≢ fid
    from k le l t s =
        let here = other o (omega arith) in
        let rise = rising_by 0 (o ∷ os) r i k o le l in
        here (grind (arith, nat_tests))

    away : (k : ℕ) → k < length (o ∷ os) → (get_or (o ∷ os) k o).fid ≢ fid
    away k l = ⊎_elim
        (λ (m : k < i). below k (p.0 k o (omega arith) m))
        (λ (m : i ≤ k). from k m l (p.1 i o (omega arith) (omega arith)))
        (cases_lt k i)

above_strict : (low : ℕ) (os : List Object) → AreRising low os → (k : ℕ) (d : Object) → k < length os → low < (get_or os k d).fid
above_strict low [] r k d l = absurd (omega arith)
above_strict low (o ∷ os) r zero d l = r.0
above_strict low (o ∷ os) r (suc k) d l = let h = r.0 in let m = above_strict o.fid os r.1 k d (omega arith) in omega arith

rising_strict : (low : ℕ) (os : List Object) → AreRising low os → (i j : ℕ) (d : Object) → i < j → j < length os → (get_or os i d).fid < (get_or os j d).fid
rising_strict low [] r i j d lt l = absurd (omega arith)
rising_strict low (o ∷ os) r i zero d lt l = absurd (omega arith)
rising_strict low (o ∷ os) r zero (suc j) d lt l = above_strict o.fid os r.1 j d (omega arith)
rising_strict low (o ∷ os) r (suc i) (suc j) d lt l = rising_strict o.fid os r.1 i j d (omega arith) (omega arith)

-- an object with the number, wherever it was looked for
pub guessed : (fid : ℕ) (os : List Object) (i : ℕ) (d : Object) → AreRising 0 os → i < length os → (get_or os i d).fid ≡ fid → Some i ≡ position (has_fid fid) os
guessed fid os i d r l e = sym (position_some (has_fid fid) os i (first_here fid os i d (λ k m s. before k m s) l e) l)
  where
    before : (k : ℕ) → k < i → (get_or os k d).fid ≡ fid → ⊥
    before k m s = let h = rising_strict 0 os r k i d m l in omega arith

-- the object at the index
pub found_at : (fid at : ℕ) (os : List Object) (d : Object) → position (has_fid fid) os ≡ Some at → Some (get_or os at d) ≡ object_at os fid
found_at fid at os d e =
    let p = placed (has_fid fid) os at e in
    sym (find_at (has_fid fid) os ∙ ap (slice_get os) p.0 ∙ got os at (omega arith))
  where
    got : (xs : List Object) (k : ℕ) → k < length xs → slice_get xs k ≡ Some (get_or xs k d)
    got [] k l = absurd (omega arith)
    got (x ∷ xs) zero l = refl
    got (x ∷ xs) (suc k) l = got xs k (omega arith)

pub not_found : (fid : ℕ) (os : List Object) → position (has_fid fid) os ≡ None → None ≡ object_at os fid
not_found fid os e = sym (find_at (has_fid fid) os ∙ past os (position_or_len (has_fid fid) os) (not_placed (has_fid fid) os e))
  where
    past : (xs : List Object) (k : ℕ) → (k < length xs → ⊥) → slice_get xs k ≡ None
    past [] k l = refl
    past (x ∷ xs) zero l = absurd (l (omega arith))
    past (x ∷ xs) (suc k) l = past xs k (λ m. l (omega arith))
