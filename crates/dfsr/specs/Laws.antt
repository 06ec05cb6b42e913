-- What holds of every script, read or made of a seed.
use Rattle.std.specs.Prelude.{◌≡◌, ◌≤◌, ℕ, List, [], ◌∷◌, ◌++◌, All, codes}
use Rattle.script_lang.specs.declared.line.Line.{Line}
use Rattle.script_lang.specs.declared.line.Line.TheVariants.{Change, Consume, Pull, Remove}
use Rattle.script_lang.specs.Grammar.{IsLine}
use Rattle.dfsr.specs.Answers.{IsAnswer, IsBad, IsBigText, IsProper, IsTooLarge}
use Rattle.dfsr.specs.Big.{big_lines, counts, groups}

-- bytes have one row that is named as the first outside the grammar
abbrev pub BadLinesAreOne : Type 0
BadLinesAreOne = (bytes : List ℕ) (number other : ℕ) → IsBad bytes number → IsBad bytes other → number ≡ other

-- one text is to be written of bytes: the text of a script, or the line that names the first row outside the grammar
abbrev pub OneText : Type 0
OneText = (bytes a b : List ℕ) → IsAnswer bytes a → IsAnswer bytes b → a ≡ b

-- the causes of the statuses 0, 3 and 8 exclude each other
pub record CausesDiffer (bytes : List ℕ) : Type 0 where
  pub proper_bad : (lines : List Line) (number : ℕ) → IsProper bytes lines → IsBad bytes number → ⊥
  pub proper_large : (lines : List Line) → IsProper bytes lines → IsTooLarge bytes → ⊥
  pub bad_large : (number : ℕ) → IsBad bytes number → IsTooLarge bytes → ⊥

-- of all bytes
abbrev pub AllCausesDiffer : Type 0
AllCausesDiffer = (bytes : List ℕ) → CausesDiffer bytes

-- ---- the script that a seed makes

-- each of its lines is one of the grammar
abbrev pub BigLinesAreLines : Type 0
BigLinesAreLines = (seed count : ℕ) → count ≤ 20000 → All IsLine (big_lines seed count ++ counts)

-- it prints something
abbrev pub EveryBigPrints : Type 0
EveryBigPrints = (seed count : ℕ) → count ≤ 20000 → (text : List ℕ) × IsBigText seed count text

-- and one thing
abbrev pub BigTextsAreOne : Type 0
BigTextsAreOne = (seed count : ℕ) (a b : List ℕ) → count ≤ 20000 → IsBigText seed count a → IsBigText seed count b → a ≡ b

-- the groups of some seeds
pub record GroupsAreDrawn : Type 0 where
  pub changes : groups 5 1 ≡ Change (codes "a") (codes "f90" ∷ []) 1 ∷ []
  pub pulls : groups 0 1 ≡ Pull (codes "b") (codes "c") ∷ []
  pub removes : groups 0 2 ≡ groups 0 1 ++ Remove (codes "b") (codes "f34" ∷ []) ∷ Consume (codes "b") 2 ∷ []
