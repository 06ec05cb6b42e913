-- Strings of UTF-16 units.
use Rattle.std.specs.Prelude.{◌≡◌, ◌<◌, ◌^◌, ◌+◌, ◌-◌, ◌≤◌, ◌==◌, ◌||◌, ℕ, Bool, not, true, false, List, [], ◌∷◌, ◌++◌, Result, Ok, Err, length, take, nat_lt, if◌then◌else◌}
use Rattle.std.specs.List.{AllByRecursion}
use Rattle.std.specs.Int.{w16}
use Rattle.ndr_core.specs.declared.refusal.NdrBad.{NdrBad}
use Rattle.ndr_core.specs.declared.refusal.NdrBad.TheVariants.{Short, Count, Terminator}
use Rattle.ndr_core.specs.Cursor.{Cursor}
use Rattle.ndr_core.specs.Items.{Item, followed, number, padding}
use Rattle.ndr_core.specs.Arrays.{many, span}

-- offset and count; the units
abbrev pub StringFields : Type 0
StringFields = (ℕ × ℕ) × List ℕ

abbrev pub raw_string : Item StringFields
raw_string = followed span (λ head. many (number w16) head.1)

-- the first 0 is the last unit
abbrev pub is_ended : List ℕ → Bool
is_ended [] = false
is_ended (u ∷ us) = if u == 0 then length us == 0 else is_ended us

-- all but the last
abbrev pub front : List ℕ → List ℕ
front units = take (length units - 1) units

-- the units of a string, once they were read: the count is judged before the terminator
abbrev pub text_of : ℕ → ℕ → StringFields → Result (List ℕ) NdrBad
text_of at limit raw =
    if not (raw.0.0 == 0) || nat_lt limit raw.0.1 then Err (Count at)
    else (if is_ended raw.1 then Ok (front raw.1) else Err (Terminator at))

-- with the cursor behind them
abbrev pub behind_text : Cursor → Result (List ℕ) NdrBad → Result (List ℕ × Cursor) NdrBad
behind_text c (Ok text) = Ok (text, c)
behind_text c (Err e) = Err e

-- all of it is refused where the string begins; that it ends too early goes before all else
abbrev pub string_reads : ℕ → ℕ → Result (StringFields × Cursor) NdrBad → Result (List ℕ × Cursor) NdrBad
string_reads limit at (Err e) = Err (Short at)
string_reads limit at (Ok x) = behind_text x.1 (text_of at limit x.0)

-- a string that has at most so many units with its terminator, which isn't part of its value
abbrev pub string : ℕ → Item (List ℕ)
string limit = record {
  reads = λ c. string_reads limit (c.at + padding 4 c.at) (raw_string.reads c);
  appends = λ out text. raw_string.appends out ((0, length text + 1), text ++ 0 ∷ []);
  Spells = λ at text bytes. (length text + 1 ≤ limit) × (is_ended (text ++ 0 ∷ []) ≡ true) × raw_string.Spells at ((0, length text + 1), text ++ 0 ∷ []) bytes;
}

-- no unit is 0
abbrev pub HasNoZero : List ℕ → Type 0
HasNoZero units = AllByRecursion (λ u. 0 < u) units

-- the units of a string with at most so many units
pub record IsText (limit : ℕ) (text : List ℕ) : Type 0 where
  pub short : length text + 1 ≤ limit
  pub fits : length text + 1 < 2 ^ 32
  pub no_zero : HasNoZero text
  pub units : AllByRecursion (λ u. u < 2 ^ 16) text
