-- What stands at the front of bytes, and how the rows end.
use Rattle.std.specs.Prelude.{◌≡◌, ◌<◌, ◌+◌, ◌++◌, ℕ, List, [], ◌∷◌, None, Option, Result, Ok, Err, String, drop, length, string_bytes}
use Rattle.std.specs.declared.alloc.Global.{Global}
use Rattle.wire_rows.specs.Reading.{row_in}
use Rattle.wire_rows.specs.declared.errors.RowError.{RowError}
use Rattle.wire_rows.specs.declared.errors.RowError.TheVariants.{Bad, Memory}
use Rattle.frswire.specs.Rows.{Answered, HasNoLineFeed, IsBadRow, IsBadText, IsLongText, IsRow, IsText, Writes}
use Rattle.frswire.specs.declared.rows.Ending.{Ending}
use Rattle.frswire.specs.declared.rows.Ending.TheVariants as endings
use Rattle.frswire.specs.declared.rows.Found.{Found}
use Rattle.frswire.specs.declared.rows.Found.TheVariants as founds

-- a row is answered, or asks nothing, unless memory ran out
abbrev pub Judges : Result (String Global) RowError → List ℕ → Type 0
Judges (Ok said) row = Answered row (string_bytes said)
Judges (Err Bad) row = row_in row ≡ None
Judges (Err Memory) row = Unit {0}

-- the same of a row that ends at a line feed and may be too long; with its line feed it has so many bytes
abbrev pub IsAt : Found → List ℕ → Type 0
IsAt (founds.Row said size) row = Answered row (string_bytes said) × (size ≡ length row + 1)
IsAt founds.Nothing row = ⊥
IsAt founds.Bad row = IsRow row × (row_in row ≡ None)
IsAt founds.Long row = 16777216 < length row

-- a row that was answered, with how many bytes it has; or the end of the bytes, a row that asks nothing, or one that is too long
abbrev pub IsNext : Found → List ℕ → Type 0
IsNext (founds.Row said size) bytes = (row : List ℕ) × (size ≡ length row + 1) × (bytes ≡ (row ++ 10 ∷ []) ++ drop size bytes) × Answered row (string_bytes said)
IsNext founds.Nothing bytes = bytes ≡ []
IsNext founds.Bad bytes = (row : List ℕ) × (behind : List ℕ) × (bytes ≡ row ++ behind) × IsBadRow row behind
IsNext founds.Long bytes = (row : List ℕ) × (behind : List ℕ) × (bytes ≡ row ++ behind) × HasNoLineFeed row × (16777216 < length row)

-- what is written of the bytes
abbrev pub Ends : Ending → List ℕ → Option (List ℕ) → Option (List ℕ) → Type 0
Ends endings.All bytes old new = Writes IsText bytes old new
Ends endings.Bad bytes old new = Writes IsBadText bytes old new
Ends endings.Long bytes old new = Writes IsLongText bytes old new
