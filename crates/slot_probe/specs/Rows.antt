-- Rows of two slots each, and what is written of them.
use Rattle.std.specs.Prelude.{ℕ, ◌≡◌, ◌≢◌, ◌++◌, ◌⊎◌, List, [], ◌∷◌, All, Ok, Option, Some, None, codes, decimal}
use Rattle.hex.specs.Hex.{decode_of, encode_lower}
use Rattle.frs_io.specs.Told.{Takes, TakesSome}
use Rattle.frs_journal.specs.Errors.{slot_text}
use Rattle.slot_probe.specs.Found.{IsFound}
use Rattle.slot_probe.specs.declared.probe.Found.{Found}
use Rattle.slot_probe.specs.declared.probe.Found.TheVariants.{State, Damaged}

-- the word is a dash, for no bytes, or the bytes in hex
abbrev pub SpellsWord : List ℕ → List ℕ → Type 0
SpellsWord word bytes = ((word ≡ 45 ∷ []) × (bytes ≡ [])) ⊎ (decode_of word ≡ Ok bytes)

-- the word spells no bytes
abbrev pub IsNoWord : List ℕ → Type 0
IsNoWord word = (bytes : List ℕ) → SpellsWord word bytes → ⊥

-- no byte is this one
abbrev pub Lacks : ℕ → List ℕ → Type 0
Lacks byte bytes = All (λ b. b ≢ byte) bytes

-- the row's words are what stands before its first space and behind it
pub record IsWords (row first second : List ℕ) : Type 0 where
  pub lacks : Lacks 32 first
  pub parts : row ≡ first ++ 32 ∷ second

-- the row is two words, and this is found of the slots that they spell
pub record AnswersRow (row : List ℕ) (found : Found) : Type 0 where
  pub first : List ℕ
  pub second : List ℕ
  pub a : List ℕ
  pub b : List ℕ
  pub words : IsWords row first second
  pub spells_a : SpellsWord first a
  pub spells_b : SpellsWord second b
  pub is_found : IsFound a b found

-- the row isn't two words that spell slots
abbrev pub IsNoRow : List ℕ → Type 0
IsNoRow row = (first second a b : List ℕ) → IsWords row first second → SpellsWord first a → SpellsWord second b → ⊥

-- what is found in a row, if it is one
abbrev pub FindsInRow : List ℕ → Option Found → Type 0
FindsInRow row None = IsNoRow row
FindsInRow row (Some found) = AnswersRow row found

-- what is written of that, without a line feed
abbrev pub found_text : Option Found → List ℕ
found_text None = codes "no row"
found_text (Some (Damaged slot offset)) = codes "damaged " ++ (slot_text slot ++ (codes " " ++ decimal offset))
found_text (Some (State count serial sum)) =
    codes "state " ++ (decimal count ++ (codes " " ++ (decimal serial ++ (codes " " ++ encode_lower sum.0))))

-- each row with the line feed that ends it
abbrev pub ended : List (List ℕ) → List ℕ
ended [] = []
ended (row ∷ rows) = (row ++ 10 ∷ []) ++ ended rows

-- a row, and what is written of it with a line feed
pub record Answered (row said : List ℕ) : Type 0 where
  pub lacks : Lacks 10 row
  pub found : Option Found
  pub finds : FindsInRow row found
  pub says : said ≡ found_text found ++ 10 ∷ []

-- what is written of rows, one behind the other
abbrev pub AllAnswered : List (List ℕ) → List ℕ → Type 0
AllAnswered [] said = said ≡ []
AllAnswered (row ∷ rows) said = (first : List ℕ) × (more : List ℕ) × Answered row first × AllAnswered rows more × (said ≡ first ++ more)

-- of some first rows of bytes
abbrev pub IsFront : List ℕ → List ℕ → Type 0
IsFront bytes said = (rows : List (List ℕ)) × (behind : List ℕ) × (bytes ≡ ended rows ++ behind) × AllAnswered rows said

-- of all of them: behind the last line feed is no row
abbrev pub IsText : List ℕ → List ℕ → Type 0
IsText bytes said = (rows : List (List ℕ)) × (behind : List ℕ) × (bytes ≡ ended rows ++ behind) × Lacks 10 behind × AllAnswered rows said

-- a sink took the text of bytes
abbrev pub Writes : List ℕ → Option (List ℕ) → Option (List ℕ) → Type 0
Writes bytes old new = (said : List ℕ) × IsText bytes said × Takes old new said

-- it took a beginning of that of some first rows
abbrev pub WritesSome : List ℕ → Option (List ℕ) → Option (List ℕ) → Type 0
WritesSome bytes old new = (said : List ℕ) × IsFront bytes said × TakesSome old new said
