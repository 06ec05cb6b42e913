-- Which bytes are a script, and of which lines.
use Rattle.std.specs.Prelude.{◌≡◌, ◌≢◌, ◌⊎◌, ◌<◌, ◌≤◌, ◌-◌, ℕ, Bool, true, false, not, ◌==◌, List, [], ◌∷◌, Option, Some, None, All, IsUtf8, MatchOption, count_by, filter, length, map, slice_get, slice_index_or, take}
use Rattle.std.specs.List.{slice_split}
use Rattle.script_lang.specs.declared.line.Line.{Line}
use Rattle.script_lang.specs.Grammar.{IsLine, spelling}

-- what stands between the line feeds; the row behind a last line feed is empty
abbrev pub rows : List ℕ → List (List ℕ)
rows bytes = slice_split (λ b. b == 10) bytes

-- a row that is empty or begins with # says nothing
abbrev pub says_something : List ℕ → Bool
says_something [] = false
says_something (c ∷ cs) = not (c == 35)

-- these rows spell these lines: each row is text, and those that say something are the spellings
pub record SpellLines (found : List (List ℕ)) (lines : List Line) : Type 0 where
  pub text : All IsUtf8 found
  pub valid : All IsLine lines
  pub spelled : filter says_something found ≡ map spelling lines

-- a script of these lines
abbrev pub IsScript : List ℕ → List Line → Type 0
IsScript bytes lines = SpellLines (rows bytes) lines

-- a row outside the grammar: no text, or it says something that no line spells
abbrev pub IsBadRow : List ℕ → Type 0
IsBadRow row = (IsUtf8 row → ⊥) ⊎ ((says_something row ≡ true) × ((line : Line) → IsLine line → row ≢ spelling line))

-- the row of this number, from 1, is outside the grammar, and those before it spell some lines
pub record IsFirstBad (bytes : List ℕ) (number : ℕ) : Type 0 where
  pub positive : 0 < number
  pub within : number ≤ length (rows bytes)
  pub bad : IsBadRow (slice_index_or (rows bytes) (number - 1) [])
  pub before : (lines : List Line) × SpellLines (take (number - 1) (rows bytes)) lines

-- the lines before the first row outside the grammar, and its number, where there is one
abbrev pub IsPrefix : List ℕ → List Line → Option ℕ → Type 0
IsPrefix bytes lines None = IsScript bytes lines
IsPrefix bytes lines (Some number) = IsFirstBad bytes number × SpellLines (take (number - 1) (rows bytes)) lines

-- ---- where a line stands

-- the row of this number, from 1, says something, and so many rows before it do
pub record IsRowOf (found : List (List ℕ)) (index number : ℕ) : Type 0 where
  pub positive : 0 < number
  pub within : number ≤ length found
  pub says : says_something (slice_index_or found (number - 1) []) ≡ true
  pub before : count_by says_something (take (number - 1) found) ≡ index

-- the row of this number spells the line of this index, and those before it spell those before
pub record StandsIn (found : List (List ℕ)) (lines : List Line) (index number : ℕ) : Type 0 where
  pub spelled : MatchOption (slice_get lines index) ⊥ (λ line. slice_index_or found (number - 1) [] ≡ spelling line)
  pub before : SpellLines (take (number - 1) found) (take index lines)
