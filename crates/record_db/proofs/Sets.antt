-- Sets of versions, and lists that grow.
use Rattle.std.proofs.Common.{◌≡◌, ◌⊎◌, Bool, true, false, ◌||◌, List, [], ◌∷◌, ◌++◌, refl, sym, inl, inr}
use Rattle.frs_base.specs.Options.{In}
use Rattle.frs_base.specs.Versions.{same_gvsn}
use Rattle.frs_base.specs.declared.version.Gvsn.{Gvsn}
use Rattle.record_db.specs.Records.{Versions, both, plus}
use Rattle.record_db.proofs.Keys.{same_gvsn_is, same_gvsn_refl}

-- ---- tests

pub or_cases : (a b : Bool) → (a || b) ≡ true → (a ≡ true) ⊎ (b ≡ true)
or_cases true b e = inl refl
or_cases false b e = inr e

pub or_left : (a b : Bool) → a ≡ true → (a || b) ≡ true
or_left true b e = refl
or_left false b e = absurd (cc)

pub or_right : (a b : Bool) → b ≡ true → (a || b) ≡ true
or_right true b e = refl
or_right false b e = e

-- ---- sets

pub plus_cases : (known : Versions) (g h : Gvsn) → plus known g h ≡ true → (h ≡ g) ⊎ (known h ≡ true)
plus_cases known g h e = elim (or_cases (same_gvsn g h) (known h) e) [ inl s ↦ inl (sym (same_gvsn_is g h s)) | inr t ↦ inr t ]

pub plus_old : (known : Versions) (g h : Gvsn) → known h ≡ true → plus known g h ≡ true
plus_old known g h e = or_right (same_gvsn g h) (known h) e

pub plus_new : (known : Versions) (g : Gvsn) → plus known g g ≡ true
plus_new known g = or_left (same_gvsn g g) (known g) (same_gvsn_refl g)

pub both_cases : (known other : Versions) (h : Gvsn) → both known other h ≡ true → (known h ≡ true) ⊎ (other h ≡ true)
both_cases known other h e = elim (or_cases (other h) (known h) e) [ inl t ↦ inr t | inr t ↦ inl t ]

pub both_old : (known other : Versions) (h : Gvsn) → known h ≡ true → both known other h ≡ true
both_old known other h e = or_right (other h) (known h) e

pub both_new : (known other : Versions) (h : Gvsn) → other h ≡ true → both known other h ≡ true
both_new known other h e = or_left (other h) (known h) e

-- ---- lists

pub in_append : {X : Type 0} (x : X) (xs ys : List X) → In x (xs ++ ys) → In x xs ⊎ In x ys
in_append x [] ys h = inr h
in_append x (y ∷ xs) ys (inl e) = inl (inl e)
in_append x (y ∷ xs) ys (inr h) = elim (in_append x xs ys h) [ inl l ↦ inl (inr l) | inr r ↦ inr r ]

pub in_before : {X : Type 0} (x : X) (xs ys : List X) → In x xs → In x (xs ++ ys)
in_before x [] ys h = absurd h
in_before x (y ∷ xs) ys (inl e) = inl e
in_before x (y ∷ xs) ys (inr h) = inr (in_before x xs ys h)

pub in_after : {X : Type 0} (x : X) (xs ys : List X) → In x ys → In x (xs ++ ys)
in_after x [] ys h = h
in_after x (y ∷ xs) ys h = inr (in_after x xs ys h)

-- ---- one set

-- sets with the same versions are one set
pub one_set : (s t : Versions) → ((g : Gvsn) → s g ≡ t g) → s ≡ t
one_set s t same = λ i g. same g i
