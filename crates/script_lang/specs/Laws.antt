-- What holds of every script.
use Rattle.std.specs.Prelude.{◌≡◌, ◌<◌, ◌≤◌, ℕ, List, [], ◌∷◌, length, take}
use Rattle.script_lang.specs.declared.line.Line.{Line}
use Rattle.script_lang.specs.Grammar.{IsLine, spelling}
use Rattle.script_lang.specs.Script.{IsFirstBad, IsRowOf, IsScript, SpellLines, StandsIn, rows}

-- what a line spells is a script of that line
abbrev pub SpellingsAreScripts : Type 0
SpellingsAreScripts = (line : Line) → IsLine line → IsScript (spelling line) (line ∷ [])

-- a script has one list of lines
abbrev pub ScriptsHaveOneList : Type 0
ScriptsHaveOneList = (bytes : List ℕ) (lines others : List Line) → IsScript bytes lines → IsScript bytes others → lines ≡ others

-- no bytes are a script and have a row outside the grammar
abbrev pub ScriptsHaveNoBadRow : Type 0
ScriptsHaveNoBadRow = (bytes : List ℕ) (lines : List Line) (number : ℕ) → IsScript bytes lines → IsFirstBad bytes number → ⊥

-- one row is the first outside the grammar
abbrev pub FirstBadRowsAreOne : Type 0
FirstBadRowsAreOne = (bytes : List ℕ) (number other : ℕ) → IsFirstBad bytes number → IsFirstBad bytes other → number ≡ other

-- where first rows spell lines, each line stands in the row of its number
abbrev pub LinesStandInRows : Type 0
LinesStandInRows = (bytes : List ℕ) (count : ℕ) (lines : List Line) (index number : ℕ) → SpellLines (take count (rows bytes)) lines → index < length lines → IsRowOf (rows bytes) index number
    → (number ≤ count) × StandsIn (rows bytes) lines index number
