-- How many entries parts have.
use Rattle.std.proofs.Common.{◌≡◌, ◌∙◌, ◌+◌, ℕ, Bool, Bor, Option, None, not, true, false, List, [], ◌∷◌, ◌++◌, Some, refl, sym, ap, length, take, arith}
use Rattle.std.specs.Prelude.{◌↔◌, min, slice_get}
use Rattle.std.specs.Option.{is_some}
use Rattle.frs_pmap.specs.Entries.{lent}
use Rattle.std.specs.List.{flat_map}
use Rattle.std.proofs.lemmas.List.{length-append}
use Rattle.std.proofs.Math.Nat.{add-zero}
use Rattle.std.proofs.lemmas.Grind.{flat_map-append}
use Rattle.frs_pmap.proofs.Slots.{one_taken}

module _ {P X : Type 0} (f : P → List X) where
  taken_more : (cs : List P) (at : ℕ) (c : P) → slice_get cs at ≡ Some c → length (flat_map f (take (at + 1) cs)) ≡ length (flat_map f (take at cs)) + length (f c)
  taken_more cs at c got =
      ap (λ l. length (flat_map f l)) (sym (one_taken cs at c got)) ∙ ap length (flat_map-append f (take at cs) (c ∷ [])) ∙ length-append (flat_map f (take at cs)) (f c ++ [])
      ∙ ap (λ n. length (flat_map f (take at cs)) + n) (length-append (f c) [] ∙ add-zero (length (f c)))

  -- the count after one part more
  pub count_more : (cs : List P) (at : ℕ) (c : P) (m now part next : ℕ) → slice_get cs at ≡ Some c → now ≡ min (length (flat_map f (take at cs))) m → part ≡ min (length (f c)) m → next ≡ min (now + part) m
      → next ≡ min (length (flat_map f (take (at + 1) cs))) m
  count_more cs at c m now part next got is part_is next_is =
      next_is ∙ ap (λ (n : ℕ). min (n + part) m) is ∙ ap (λ (n : ℕ). min (min (length (flat_map f (take at cs))) m + n) m) part_is
      ∙ capped (length (flat_map f (take at cs))) (length (f c)) m ∙ ap (λ (n : ℕ). min n m) (sym (taken_more cs at c got))
    where
      capped : (a b m : ℕ) → min (min a m + min b m) m ≡ min (a + b) m
      capped a b m = omega arith

-- where there is no first entry there is none
pub none_first : {K V : Type 0} (es : List (K × V)) (r : Option (K × Bor V)) (b : Bool) → lent r ≡ slice_get es 0 → is_some r ≡ not b → (b ≡ true) ↔ (es ≡ [])
none_first [] None true e s = (λ _. refl, λ _. refl)
none_first [] None false e s = absurd (cc)
none_first [] (Some x) b e s = absurd (cc)
none_first (y ∷ es) None b e s = absurd (cc)
none_first (y ∷ es) (Some x) true e s = absurd (cc)
none_first (y ∷ es) (Some x) false e s = (λ t. absurd (cc), λ h. absurd (cc))
