-- Matching of names is an equivalence.
use Rattle.std.proofs.Common.{◌≡◌, true, List, ℕ, refl, sym, ◌∙◌}
use Rattle.std.specs.Prelude.{map}
use Rattle.std.proofs.lemmas.Slice.Eq.{bytes_eq-Decides}
use Rattle.frs_base.specs.Names.{fold_unit, matches}

folded : (a b : List ℕ) → matches a b ≡ true → map fold_unit a ≡ map fold_unit b
folded a b e = (bytes_eq-Decides (map fold_unit a) (map fold_unit b)).0 e

matched : (a b : List ℕ) → map fold_unit a ≡ map fold_unit b → matches a b ≡ true
matched a b e = (bytes_eq-Decides (map fold_unit a) (map fold_unit b)).1 e

-- a name matches itself
pub matches_refl : (a : List ℕ) → matches a a ≡ true
matches_refl a = matched a a refl

-- and what matches it
pub matches_sym : (a b : List ℕ) → matches a b ≡ true → matches b a ≡ true
matches_sym a b e = matched b a (sym (folded a b e))

-- and what that matches
pub matches_trans : (a b c : List ℕ) → matches a b ≡ true → matches b c ≡ true → matches a c ≡ true
matches_trans a b c e f = matched a c (folded a b e ∙ folded b c f)

-- a name that is equal matches
pub matches_is : (a b : List ℕ) → a ≡ b → matches a b ≡ true
matches_is a b e = matched a b (λ i. map fold_unit (e i))
