-- The order of paths.
use Rattle.std.proofs.Common.{◌≡◌, ◌||◌, ◌&&◌, ℕ, Bool, true, false, eqb, ltb, List, [], ◌∷◌, Ordering, Less, Equal, Greater, nat_cmp, cond, is_lt, is_eq, refl, sym, ap, ◌∙◌, arith}
use Rattle.std.proofs.lemmas.Bool.Decides.{nat_tests}
use Rattle.std.proofs.lemmas.Cmp.{lists_total, nat_list_cmp_total, tied_itself}
use Rattle.std.specs.Cmp.{IsTotalOrder}
use Rattle.std.specs.Cmp.Lexicographic.{slice_cmp}
use Rattle.std.specs.FinMap.{nat_cmp-IsAntisymmetric, slice_cmp-IsAntisymmetric}
use Rattle.std.specs.Ordering.{ordering_reverse, ordering_then}
use Rattle.script_engine.specs.Rows.{path_cmp}
use Rattle.script_engine.specs.Trees.{path_lt, same_units, units_lt}

pub paths_total : IsTotalOrder path_cmp
paths_total = lists_total nat_list_cmp_total

pub paths_same : (a b : List (List ℕ)) → path_cmp a b ≡ Equal → a ≡ b
paths_same a b e = slice_cmp-IsAntisymmetric (slice_cmp-IsAntisymmetric nat_cmp-IsAntisymmetric) a b e

-- ---- the tests answer as the comparison does

first_then : (r o : Ordering) → (is_lt r || (is_eq r && is_lt o)) ≡ is_lt (ordering_then r o)
first_then Less o = refl
first_then Equal o = refl
first_then Greater o = refl

both_then : (r o : Ordering) → (is_eq r && is_eq o) ≡ is_eq (ordering_then r o)
both_then Less o = refl
both_then Equal o = refl
both_then Greater o = refl

unit_lt : (x y : ℕ) → ltb x y ≡ is_lt (nat_cmp x y)
unit_lt x y = by (ltb x y) (eqb x y)
  where
    by : (a b : Bool) → a ≡ is_lt (cond a Less (cond b Equal Greater))
    by true b = refl
    by false true = refl
    by false false = refl

unit_same : (x y : ℕ) → eqb x y ≡ is_eq (nat_cmp x y)
unit_same x y = by (ltb x y) (eqb x y) refl refl
  where
    by : (a b : Bool) → ltb x y ≡ a → eqb x y ≡ b → b ≡ is_eq (cond a Less (cond b Equal Greater))
    by true true p q = absurd (grind (arith, nat_tests))
    by true false p q = refl
    by false true p q = refl
    by false false p q = refl

units_lt_is : (a b : List ℕ) → units_lt a b ≡ is_lt (slice_cmp nat_cmp a b)
units_lt_is [] [] = refl
units_lt_is [] (y ∷ b) = refl
units_lt_is (x ∷ a) [] = refl
units_lt_is (x ∷ a) (y ∷ b) =
    (λ i. unit_lt x y i || (unit_same x y i && units_lt_is a b i)) ∙ first_then (nat_cmp x y) (slice_cmp nat_cmp a b)

same_units_is : (a b : List ℕ) → same_units a b ≡ is_eq (slice_cmp nat_cmp a b)
same_units_is [] [] = refl
same_units_is [] (y ∷ b) = refl
same_units_is (x ∷ a) [] = refl
same_units_is (x ∷ a) (y ∷ b) = (λ i. unit_same x y i && same_units_is a b i) ∙ both_then (nat_cmp x y) (slice_cmp nat_cmp a b)

pub path_lt_is : (a b : List (List ℕ)) → path_lt a b ≡ is_lt (path_cmp a b)
path_lt_is [] [] = refl
path_lt_is [] (y ∷ b) = refl
path_lt_is (x ∷ a) [] = refl
path_lt_is (x ∷ a) (y ∷ b) =
    (λ i. units_lt_is x y i || (same_units_is x y i && path_lt_is a b i)) ∙ first_then (slice_cmp nat_cmp x y) (path_cmp a b)

-- ---- a strict order

is_less : (o : Ordering) → is_lt o ≡ true → o ≡ Less
is_less Less e = refl
is_less Equal e = absurd (cc)
is_less Greater e = absurd (cc)

pub path_less : (a b : List (List ℕ)) → path_lt a b ≡ true → path_cmp a b ≡ Less
path_less a b e = is_less (path_cmp a b) (sym (path_lt_is a b) ∙ e)

pub path_trans : (a b c : List (List ℕ)) → path_lt a b ≡ true → path_lt b c ≡ true → path_lt a c ≡ true
path_trans a b c p q = path_lt_is a c ∙ ap is_lt (paths_total.trans a b c (path_less a b p) (path_less b c q))

pub path_apart : (a b : List (List ℕ)) → path_lt a b ≡ true → a ≡ b → ⊥
path_apart a b p e =
    let tied : path_cmp a b ≡ Equal = ap (path_cmp a) (sym e) ∙ tied_itself paths_total a in
    let less : path_cmp a b ≡ Less = path_less a b p in
    cc

-- paths of which neither is the lower are one
pub path_below : (a b : List (List ℕ)) → path_lt b a ≡ false → (a ≡ b → ⊥) → path_lt a b ≡ true
path_below a b f n = path_lt_is a b ∙ by (path_cmp a b) refl
  where
    by : (o : Ordering) → path_cmp a b ≡ o → is_lt o ≡ true
    by Less e = refl
    by Equal e = absurd (n (paths_same a b e))
    by Greater e =
        let r : path_cmp b a ≡ Less = paths_total.antisymm b a ∙ ap ordering_reverse e in
        let t : path_lt b a ≡ true = path_lt_is b a ∙ ap is_lt r in
        absurd (cc)
