-- Words ask for one seed and one number of groups.
use Rattle.std.proofs.Common.{◌≡◌, ℕ, List, ◌∷◌, [], codes, sym, ◌∙◌, subst, arith}
use Rattle.std.specs.Prelude.{decimal}
use Rattle.std.proofs.lemmas.Fmt.{decimal_injective}
use Rattle.dfsr.specs.Words.{AreBigWords}

same_words : (a b c d : List ℕ) → codes "big" ∷ a ∷ b ∷ [] ≡ codes "big" ∷ c ∷ d ∷ [] → (a ≡ c) × (b ≡ d)
same_words a b c d e = (cc, cc)

-- what holds of the seed and the number that words ask for holds of all such
pub of_asked : (P : ℕ → ℕ → Type 0) (words : List (List ℕ)) (seed count seed' count' : ℕ) → AreBigWords words seed count → AreBigWords words seed' count' → P seed count → P seed' count'
of_asked P words seed count seed' count' asked also holds =
    let (seeds, counts) = same_words (decimal seed) (decimal count) (decimal seed') (decimal count') (sym asked.spelled ∙ also.spelled) in
    let few = asked.few in
    let few' = also.few in
    subst (λ s. P s count') (decimal_injective seed seed' asked.small also.small seeds)
    (subst (λ n. P seed n) (decimal_injective count count' (omega arith) (omega arith) counts) holds)
