-- What is read as rows, and what is written of them.
use Rattle.std.specs.Prelude.{◌≡◌, ◌≢◌, ◌⊎◌, ◌<◌, ◌≤◌, ◌+◌, ◌++◌, ℕ, List, [], ◌∷◌, None, Option, Some, All, codes, decimal, length}
use Rattle.frs_io.specs.Told.{Takes, TakesSome}
use Rattle.wire_rows.specs.Reading.{row_in}
use Rattle.wire_rows.specs.Answering.{Answers}
use Rattle.wire_rows.specs.declared.row.WireRow.{WireRow}

-- ---- rows

-- each row with the line feed that ends it
abbrev pub ended : List (List ℕ) → List ℕ
ended [] = []
ended (row ∷ rows) = (row ++ 10 ∷ []) ++ ended rows

-- no byte is a line feed
abbrev pub HasNoLineFeed : List ℕ → Type 0
HasNoLineFeed bytes = All (λ b. b ≢ 10) bytes

-- a row within 16,777,216 bytes
pub record IsRow (row : List ℕ) : Type 0 where
  pub one : HasNoLineFeed row
  pub short : length row ≤ 16777216

-- a row, what it asks, and its answer with a line feed
pub record Answered (row said : List ℕ) : Type 0 where
  pub fits : IsRow row
  pub asks : WireRow
  pub reads : row_in row ≡ Some asks
  pub answer : List ℕ
  pub answers : Answers asks answer
  pub says : said ≡ answer ++ 10 ∷ []

-- the answers of rows, one behind the other
abbrev pub AllAnswered : List (List ℕ) → List ℕ → Type 0
AllAnswered [] said = said ≡ []
AllAnswered (row ∷ rows) said = (first : List ℕ) × (more : List ℕ) × Answered row first × AllAnswered rows more × (said ≡ first ++ more)

-- ---- endings

-- the line that names the row of this number
abbrev pub bad_line : ℕ → List ℕ
bad_line number = codes "bad line " ++ (decimal number ++ 10 ∷ [])

-- bytes that are these rows
abbrev pub IsText : List ℕ → List ℕ → Type 0
IsText bytes said = (rows : List (List ℕ)) × (bytes ≡ ended rows) × AllAnswered rows said

-- a row that asks nothing: with its line feed, or the last one without
abbrev pub IsBadRow : List ℕ → List ℕ → Type 0
IsBadRow row behind = IsRow row × (((rest : List ℕ) × (behind ≡ 10 ∷ rest) × (row_in row ≡ None)) ⊎ ((behind ≡ []) × (row ≢ [])))

-- bytes of which these are the first rows, and behind them stands one that asks nothing: the answers, and the line that names it
abbrev pub IsBadText : List ℕ → List ℕ → Type 0
IsBadText bytes said = (rows : List (List ℕ)) × (row : List ℕ) × (behind : List ℕ) × (front : List ℕ) × (bytes ≡ ended rows ++ (row ++ behind)) × IsBadRow row behind × AllAnswered rows front × (said ≡ front ++ bad_line (length rows + 1))

-- bytes of which these are the first rows, and behind them stand more than 16,777,216 bytes without a line feed: the answers
abbrev pub IsLongText : List ℕ → List ℕ → Type 0
IsLongText bytes said = (rows : List (List ℕ)) × (row : List ℕ) × (behind : List ℕ) × (bytes ≡ ended rows ++ (row ++ behind)) × HasNoLineFeed row × (16777216 < length row) × AllAnswered rows said

-- the answers of some first rows
abbrev pub IsFront : List ℕ → List ℕ → Type 0
IsFront bytes said = (rows : List (List ℕ)) × (behind : List ℕ) × (bytes ≡ ended rows ++ behind) × AllAnswered rows said

-- ---- what is written

-- a sink took a text of which this holds of the bytes
abbrev pub Writes : (List ℕ → List ℕ → Type 0) → List ℕ → Option (List ℕ) → Option (List ℕ) → Type 0
Writes IsTextOf bytes old new = (said : List ℕ) × IsTextOf bytes said × Takes old new said

-- the answers of some first rows, or what is written of bytes in which a row asks nothing
abbrev pub IsSomeText : List ℕ → List ℕ → Type 0
IsSomeText bytes said = IsFront bytes said ⊎ IsBadText bytes said

-- a sink took a beginning of such a text
abbrev pub WritesSome : List ℕ → Option (List ℕ) → Option (List ℕ) → Type 0
WritesSome bytes old new = (said : List ℕ) × IsSomeText bytes said × TakesSome old new said
