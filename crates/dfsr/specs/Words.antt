-- What the words behind the program's name ask for.
use Rattle.std.specs.Prelude.{◌≡◌, ◌<◌, ◌≤◌, ◌^◌, ℕ, List, [], ◌∷◌, Option, Some, None, codes, decimal}
use Rattle.dfsr.specs.declared.words.Words.{Words}
use Rattle.dfsr.specs.declared.words.Words.TheVariants.{Script, Big}

-- the one word `script`
abbrev pub AreScriptWords : List (List ℕ) → Type 0
AreScriptWords words = words ≡ codes "script" ∷ []

-- `big`, a seed below 2^64 and a number of groups from 1 to 20,000, both in decimal
pub record AreBigWords (words : List (List ℕ)) (seed count : ℕ) : Type 0 where
  pub spelled : words ≡ codes "big" ∷ decimal seed ∷ decimal count ∷ []
  pub small : seed < 2 ^ 64
  pub some : 0 < count
  pub few : count ≤ 20000

-- neither
pub record AreOther (words : List (List ℕ)) : Type 0 where
  pub no_script : AreScriptWords words → ⊥
  pub no_big : (seed count : ℕ) → AreBigWords words seed count → ⊥

-- words ask for this, or for nothing
abbrev pub Ask : List (List ℕ) → Option Words → Type 0
Ask words (Some Script) = AreScriptWords words
Ask words (Some (Big seed count)) = AreBigWords words seed count
Ask words None = AreOther words

-- a word is the decimal text of this number below 2^64, or of none
abbrev pub IsNumber : List ℕ → Option ℕ → Type 0
IsNumber word (Some n) = (n < 2 ^ 64) × (word ≡ decimal n)
IsNumber word None = (n : ℕ) → n < 2 ^ 64 → word ≡ decimal n → ⊥
