-- What each status says of the bytes read and the bytes written.
use Rattle.std.specs.Prelude.{◌≡◌, ◌⊎◌, ◌<◌, ◌≤◌, ◌++◌, ℕ, Bool, true, false, List, [], ◌∷◌, codes, count_by, decimal, length}
use Rattle.std.specs.declared.option.Option.{Option}
use Rattle.frs_io.specs.Told.{Takes, TakesSome}
use Rattle.script_lang.specs.declared.line.Line.{Line}
use Rattle.script_lang.specs.declared.line.Line.TheVariants.{Member}
use Rattle.script_lang.specs.Script.{IsFirstBad, IsScript}
use Rattle.script_engine.specs.Scene.{Scene, fresh_scene}
use Rattle.script_engine.specs.Text.{Prints, Run}
use Rattle.dfsr.specs.Big.{big_lines, counts}

-- ---- causes

-- a `member` line
abbrev pub makes_member : Line → Bool
makes_member (Member name kind) = true
makes_member _ = false

-- a script of these lines, within 16,777,216 bytes and 8 `member` lines
pub record IsProper (bytes : List ℕ) (lines : List Line) : Type 0 where
  pub within : length bytes ≤ 16777216
  pub script : IsScript bytes lines
  pub members : count_by makes_member lines ≤ 8

-- within the bytes, but the row of this number is the first outside the grammar
pub record IsBad (bytes : List ℕ) (number : ℕ) : Type 0 where
  pub within : length bytes ≤ 16777216
  pub first : IsFirstBad bytes number

-- more than 16,777,216 bytes, or a script within them of more than 8 `member` lines
abbrev pub IsTooLarge : List ℕ → Type 0
IsTooLarge bytes = (16777216 < length bytes)
    ⊎ ((lines : List Line) × (length bytes ≤ 16777216) × IsScript bytes lines × (8 < count_by makes_member lines))

-- ---- what is written

-- the line that names the row of this number
abbrev pub bad_line : ℕ → List ℕ
bad_line number = codes "bad line " ++ (decimal number ++ 10 ∷ [])

-- the text of a script
abbrev pub IsText : List ℕ → List ℕ → Type 0
IsText bytes text = (lines : List Line) × IsProper bytes lines × Prints lines text

-- the line that names the first row outside the grammar
abbrev pub IsBadLine : List ℕ → List ℕ → Type 0
IsBadLine bytes text = (number : ℕ) × IsBad bytes number × (text ≡ bad_line number)

-- what is to be written of these bytes: their text, or that line
abbrev pub IsAnswer : List ℕ → List ℕ → Type 0
IsAnswer bytes text = IsText bytes text ⊎ IsBadLine bytes text

-- a sink took what these lines print
abbrev pub PrintsAll : List Line → Option (List ℕ) → Option (List ℕ) → Type 0
PrintsAll lines old new = (text : List ℕ) × Prints lines text × Takes old new text

-- a sink took a beginning of what these lines print
abbrev pub PrintsSome : List Line → Option (List ℕ) → Option (List ℕ) → Type 0
PrintsSome lines old new = (text : List ℕ) × Prints lines text × TakesSome old new text

-- a sink took the text of these bytes
abbrev pub WritesAll : List ℕ → Option (List ℕ) → Option (List ℕ) → Type 0
WritesAll bytes old new = (text : List ℕ) × IsText bytes text × Takes old new text

-- a sink took the line that names their first row outside the grammar
abbrev pub WritesBadLine : List ℕ → Option (List ℕ) → Option (List ℕ) → Type 0
WritesBadLine bytes old new = (text : List ℕ) × IsBadLine bytes text × Takes old new text

-- a sink took a beginning of what is to be written of these bytes
abbrev pub WritesSome : List ℕ → Option (List ℕ) → Option (List ℕ) → Type 0
WritesSome bytes old new = (text : List ℕ) × IsAnswer bytes text × TakesSome old new text

-- ---- the script that a seed makes

-- what the last lines of a script print
abbrev pub PrintsLast : List Line → List Line → List ℕ → Type 0
PrintsLast before last text = (said : List ℕ) × (mid : Scene) × (new : Scene) × Run fresh_scene before said mid × Run mid last text new

-- what the last three lines of the script print that a seed makes with so many groups
abbrev pub IsBigText : ℕ → ℕ → List ℕ → Type 0
IsBigText seed count text = PrintsLast (big_lines seed count) counts text

-- a sink took that text
abbrev pub WritesBig : ℕ → ℕ → Option (List ℕ) → Option (List ℕ) → Type 0
WritesBig seed count old new = (text : List ℕ) × IsBigText seed count text × Takes old new text

-- a sink took a beginning of it
abbrev pub WritesSomeOfBig : ℕ → ℕ → Option (List ℕ) → Option (List ℕ) → Type 0
WritesSomeOfBig seed count old new = (text : List ℕ) × IsBigText seed count text × TakesSome old new text
