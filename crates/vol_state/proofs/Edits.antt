-- An edit of the object with a fid, by its index.
use Rattle.std.proofs.Common.{◌≡◌, ◌+◌, ◌<◌, ℕ, suc, Bool, true, false, cond, not, eqb, ltb, List, [], ◌∷◌, length, get_or, set, Some, None, refl, ap, subst, arith}
use Rattle.std.proofs.lemmas.Bool.Decides.{nat_tests, eqb_tells}
use Rattle.std.specs.List.{position, position_or_len, remove}
use Rattle.vol_state.specs.declared.object.Object.{Object}
use Rattle.vol_state.specs.Effects.{edit, without}
use Rattle.vol_state.proofs.Climbing.{by_cases}

abbrev pub has_fid : ℕ → Object → Bool
has_fid fid o = eqb o.fid fid

pub one_more : (n : ℕ) → 1 + n ≡ suc n
one_more n = omega arith

pub placed : (p : Object → Bool) (os : List Object) (at : ℕ) → position p os ≡ Some at → (position_or_len p os ≡ at) × (position_or_len p os < length os)
placed p os at e = go (ltb (position_or_len p os) (length os)) refl e
  where
    go : (b : Bool) → ltb (position_or_len p os) (length os) ≡ b → cond b (Some (position_or_len p os)) None ≡ Some at → (position_or_len p os ≡ at) × (position_or_len p os < length os)
    go true h e = (cc, grind (arith, nat_tests))
    go false h e = absurd (cc)

edit_first : (f : Object → Object) (fid : ℕ) (d : Object) (os : List Object) → position_or_len (has_fid fid) os < length os
    → set os (position_or_len (has_fid fid) os) (f (get_or os (position_or_len (has_fid fid) os) d)) ≡ edit fid f os
edit_first f fid d [] l = absurd (omega (arith, l))
edit_first f fid d (o ∷ os) l =
    by_cases (eqb_tells o.fid fid)
    (λ t. rw t.0 refl)
    (λ t. let l' : position_or_len (has_fid fid) os < length os = omega (arith, l, ap (λ b. cond (not b) (1 + position_or_len (has_fid fid) os) 0) t.0) in
    rw t.0 (rw (one_more (position_or_len (has_fid fid) os)) (ap (λ xs. o ∷ xs) (edit_first f fid d os l'))))

pub edit_at : (f : Object → Object) (fid at : ℕ) (d : Object) (os : List Object) → position (has_fid fid) os ≡ Some at → set os at (f (get_or os at d)) ≡ edit fid f os
edit_at f fid at d os e =
    let p = placed (has_fid fid) os at e in
    subst (λ k. set os k (f (get_or os k d)) ≡ edit fid f os) p.0 (edit_first f fid d os p.1)

without_first : (fid : ℕ) (os : List Object) → position_or_len (has_fid fid) os < length os → remove os (position_or_len (has_fid fid) os) ≡ without fid os
without_first fid [] l = absurd (omega (arith, l))
without_first fid (o ∷ os) l =
    by_cases (eqb_tells o.fid fid)
    (λ t. rw t.0 refl)
    (λ t. let l' : position_or_len (has_fid fid) os < length os = omega (arith, l, ap (λ b. cond (not b) (1 + position_or_len (has_fid fid) os) 0) t.0) in
    rw t.0 (rw (one_more (position_or_len (has_fid fid) os)) (ap (λ xs. o ∷ xs) (without_first fid os l'))))

pub without_at : (fid at : ℕ) (os : List Object) → position (has_fid fid) os ≡ Some at → remove os at ≡ without fid os
without_at fid at os e =
    let p = placed (has_fid fid) os at e in
    subst (λ k. remove os k ≡ without fid os) p.0 (without_first fid os p.1)

pub not_placed : (p : Object → Bool) (os : List Object) → position p os ≡ None → position_or_len p os < length os → ⊥
not_placed p os e l = let h : ltb (position_or_len p os) (length os) ≡ true = grind (arith, nat_tests) in absurd (cc)

not_first : (fid : ℕ) (o : Object) (os : List Object) → (position_or_len (has_fid fid) (o ∷ os) < length (o ∷ os) → ⊥) → (eqb o.fid fid ≡ false) × (position_or_len (has_fid fid) os < length os → ⊥)
not_first fid o os n =
    by_cases (eqb_tells o.fid fid)
    (λ t. absurd (n (rw t.0 (omega arith))))
    (λ t. (t.0, λ l. n (rw t.0 (omega (arith, l)))))

edit_past : (f : Object → Object) (fid : ℕ) (os : List Object) → (position_or_len (has_fid fid) os < length os → ⊥) → os ≡ edit fid f os
edit_past f fid [] n = refl
edit_past f fid (o ∷ os) n = let r = not_first fid o os n in rw r.0 (ap (λ xs. o ∷ xs) (edit_past f fid os r.1))

pub edit_none : (f : Object → Object) (fid : ℕ) (os : List Object) → position (has_fid fid) os ≡ None → os ≡ edit fid f os
edit_none f fid os e = edit_past f fid os (not_placed (has_fid fid) os e)

without_past : (fid : ℕ) (os : List Object) → (position_or_len (has_fid fid) os < length os → ⊥) → os ≡ without fid os
without_past fid [] n = refl
without_past fid (o ∷ os) n = let r = not_first fid o os n in rw r.0 (ap (λ xs. o ∷ xs) (without_past fid os r.1))

pub without_none : (fid : ℕ) (os : List Object) → position (has_fid fid) os ≡ None → os ≡ without fid os
without_none fid os e = without_past fid os (not_placed (has_fid fid) os e)
