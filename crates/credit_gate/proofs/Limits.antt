-- No two seats have one place, and all have no more than there are.
use Rattle.std.proofs.Common.{◌≡◌, ◌∙◌, ℕ, zero, suc, ◌+◌, ◌<◌, ◌≤◌, List, [], ◌∷◌, ◌++◌, Some, get_or, length, length-append, inl, inr, refl, sym, ap, subst, arith}
use Rattle.std.specs.Prelude.{slice_get, slice_index}
use Rattle.std.proofs.lemmas.Bool.{cases_eq, cases_lt}
use Rattle.std.proofs.lemmas.List.{get_or_past}
use Rattle.credit_gate.specs.declared.view.View.{View}
use Rattle.credit_gate.specs.Laws.{NoneShared, NoneTooMany}
use Rattle.credit_gate.specs.Rule.{Kept, times, total}
use Rattle.credit_gate.specs.Steps.{without}
use Rattle.credit_gate.proofs.Totals.{none_at, one_at, times_append, times_without}

-- ---- two of all

some_is : (v w : View) → Some v ≡ Some w → v ≡ w
some_is v w e = cc

one_of : (f : View → ℕ) (views : List View) (i : ℕ) (v : View) → slice_get views i ≡ Some v → f v ≤ total f views
one_of f [] i v e = absurd cc
one_of f (x ∷ xs) zero v e = omega (arith, ap f (some_is x v e))
one_of f (x ∷ xs) (suc i) v e = omega (arith, one_of f xs i v e)

two_of : (f : View → ℕ) (views : List View) (i j : ℕ) (v w : View) → (i ≡ j → ⊥) → slice_get views i ≡ Some v → slice_get views j ≡ Some w → f v + f w ≤ total f views
two_of f [] i j v w apart e d = absurd cc
two_of f (x ∷ xs) zero zero v w apart e d = absurd (apart refl)
two_of f (x ∷ xs) zero (suc j) v w apart e d = omega (arith, ap f (some_is x v e), one_of f xs j w d)
two_of f (x ∷ xs) (suc i) zero v w apart e d = omega (arith, ap f (some_is x w d), one_of f xs i v e)
two_of f (x ∷ xs) (suc i) (suc j) v w apart e d = omega (arith, two_of f xs i j v w (λ same. apart (ap suc same)) e d)

pub none_shared : NoneShared
none_shared count place i j words views v w kept apart e d =
    let k = kept.1 place in
    omega (arith, two_of (λ u. times place u.places) views i j v w apart e d, k.0, k.1)

-- ---- the places of all

abbrev all_places : List View → List ℕ
all_places [] = []
all_places (v ∷ vs) = v.places ++ all_places vs

all_times : (i : ℕ) (views : List View) → times i (all_places views) ≡ total (λ v. times i v.places) views
all_times i [] = refl
all_times i (v ∷ vs) = times_append i v.places (all_places vs) ∙ ap (λ (n : ℕ). times i v.places + n) (all_times i vs)

all_length : (views : List View) → length (all_places views) ≡ total (λ v. length v.places) views
all_length [] = refl
all_length (v ∷ vs) = length-append v.places (all_places vs) ∙ ap (λ (n : ℕ). length v.places + n) (all_length vs)

without_length : (place : ℕ) (places : List ℕ) → 0 < times place places → length (without place places) + 1 ≡ length places
without_length place [] has = absurd (omega arith)
without_length place (p ∷ ps) has =
    elim (cases_eq p place) [
      | inl same ↦ rw same (grind arith)
      | inr other ↦ let later = without_length place ps (omega (arith, has, none_at p place other)) in grind (arith, later, other)
    ]

-- places that differ, each below a count
few : (count : ℕ) (places : List ℕ) → ((i : ℕ) → times i places ≤ 1) → ((i : ℕ) → count ≤ i → times i places ≡ 0) → length places ≤ count
few count [] once none = omega arith
few zero (p ∷ ps) once none = absurd (omega (arith, none p (omega arith), one_at p p refl))
few (suc n) (p ∷ ps) once none =
    let places : List ℕ = p ∷ ps in
    elim (cases_eq (times n places) 0) [
      | inl gone ↦
          omega (
            arith,
            few n places once (λ i le.
                elim (cases_eq i n) [
                  | inl same ↦ subst (λ (m : ℕ). times m places ≡ 0) (sym same) gone
                  | inr other ↦ none i (omega (arith, le, other))
                ]),
          )
      | inr some ↦
          let has : 0 < times n places = omega (arith, some) in
          let fewer : List ℕ = without n places in
          let rest = few n fewer (λ i. omega (arith, once i, times_without i n places has)) (λ i le.
          elim (cases_eq i n) [
            | inl same ↦ subst (λ (m : ℕ). times m fewer ≡ 0) (sym same) (omega (arith, once n, times_without n n places has, one_at n n refl))
            | inr other ↦ omega (arith, times_without i n places has, none i (omega (arith, le, other)))
          ]) in
          omega (arith, rest, without_length n places has)
    ]

pub none_too_many : NoneTooMany
none_too_many count words views kept =
    let once : (i : ℕ) → times i (all_places views) ≤ 1 = λ i. omega (arith, all_times i views, (kept.1 i).0, (kept.1 i).1) in
    let none : (i : ℕ) → count ≤ i → times i (all_places views) ≡ 0 = λ i le. all_times i views ∙ (kept.1 i).0 ∙ get_or_past words i 0 (omega (arith, kept.0, le)) in
    omega (arith, few count (all_places views) once none, all_length views)
