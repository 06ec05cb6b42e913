-- When bytes are refused, and how that is told.
use Rattle.std.specs.Prelude.{◌++◌, ℕ, List, codes, decimal}
use Rattle.script_lang.specs.declared.errors.ParseError.{ParseError}
use Rattle.script_lang.specs.declared.errors.ParseError.TheVariants.{LineBad, Memory}
use Rattle.script_lang.specs.declared.errors.RowError.{RowError}
use Rattle.script_lang.specs.declared.errors.RowError.TheVariants as row
use Rattle.script_lang.specs.Script.{IsFirstBad}

-- the number is that of the first row outside the grammar, unless memory ran out
abbrev pub IsRefused : ParseError → List ℕ → Type 0
IsRefused (LineBad number) bytes = IsFirstBad bytes number
IsRefused Memory bytes = Unit {0}

-- the text of an error: the row outside the grammar, or that memory ran out
abbrev pub error_text : ParseError → List ℕ
error_text (LineBad number) = codes "bad line " ++ decimal number
error_text Memory = codes "out of memory"

-- the same of one row
abbrev pub row_error_text : RowError → List ℕ
row_error_text row.Bad = codes "outside the grammar"
row_error_text row.Memory = codes "out of memory"
