-- The fields of a form, which bytes are one, and where bytes first aren't.
use Rattle.std.specs.Prelude.{◌≡◌, ◌<◌, ◌≤◌, ◌+◌, ◌==◌, ◌⊎◌, ℕ, Bool, true, List, [], ◌∷◌, ◌++◌, bit_and, bytes_eq, drop, length, slice_range}
use Rattle.std.specs.Int.{w32, w64, from_le_bytes, to_le_bytes}
use Rattle.std.specs.List.{AllByRecursion}
use Rattle.marshal_form.specs.declared.meta.Meta.{Meta}
use Rattle.marshal_form.specs.Spelling.{magic}

-- ---- the table

-- a field: its place, how many bytes it has, and which bytes are right in it
pub record Field : Type 0 where
  pub at : ℕ
  pub size : ℕ
  pub accepts : List ℕ → Bool

-- a field that holds these bytes
abbrev pub fixed_field : ℕ → List ℕ → Field
fixed_field at bytes = record { at = at; size = length bytes; accepts = λ found. bytes_eq found bytes }

-- a field of so many bytes, whatever they are
abbrev pub free_field : ℕ → ℕ → Field
free_field at size = record { at = at; size = size; accepts = λ found. true }

-- a field of attributes, in which the bit of a directory is clear
abbrev pub attributes_field : ℕ → Field
attributes_field at = record { at = at; size = 4; accepts = λ found. bit_and (from_le_bytes w32 found) 0x10 == 0 }

-- the fields before the contents
abbrev pub head_fields : List Field
head_fields =
    fixed_field 0 magic
    ∷ fixed_field 4 (to_le_bytes w32 1)
    ∷ fixed_field 8 (to_le_bytes w32 1)
    ∷ fixed_field 12 (to_le_bytes w32 0)
    ∷ fixed_field 16 (to_le_bytes w64 4)
    ∷ attributes_field 24
    ∷ fixed_field 28 (to_le_bytes w32 2)
    ∷ fixed_field 32 (to_le_bytes w32 0)
    ∷ free_field 36 8
    ∷ []

-- the number in the field of attributes
abbrev pub attributes_in : List ℕ → ℕ
attributes_in form = from_le_bytes w32 (slice_range form 24 28)

-- the number in the field of the contents' length
abbrev pub length_in : List ℕ → ℕ
length_in form = from_le_bytes w64 (slice_range form 36 44)

-- all fields: those, and the contents, as many bytes as the head says
abbrev pub fields : List ℕ → List Field
fields form = head_fields ++ free_field 44 (length_in form) ∷ []

-- the field is there to its end, and what stands in it is right
abbrev pub IsRight : List ℕ → Field → Type 0
IsRight form field = (field.at + field.size ≤ length form) × (field.accepts (slice_range form field.at (field.at + field.size)) ≡ true)

-- ---- forms

-- a form of a file: each field is right, the attributes are the file's, and what is behind the head are its contents, all of them and nothing else
pub record IsForm (form : List ℕ) (meta : Meta) (contents : List ℕ) : Type 0 where
  pub right : AllByRecursion (IsRight form) (fields form)
  pub attributes : attributes_in form ≡ meta.attributes
  pub behind : drop 44 form ≡ contents
  pub whole : length_in form ≡ length contents

-- ---- bytes that are no form

-- the fields before one are right, and that one, at the place, is missing, cut off or wrong
pub record IsFirstWrong (form : List ℕ) (at : ℕ) : Type 0 where
  pub before : List Field
  pub field : Field
  pub after : List Field
  pub table : fields form ≡ before ++ field ∷ after
  pub right : AllByRecursion (IsRight form) before
  pub wrong : ¬ IsRight form field
  pub place : at ≡ field.at

-- each field is right, and from the place on bytes are left over
pub record IsLeftOver (form : List ℕ) (at : ℕ) : Type 0 where
  pub right : AllByRecursion (IsRight form) (fields form)
  pub place : at ≡ 44 + length_in form
  pub more : at < length form

-- the first place at which bytes are no form
abbrev pub IsFirstBad : List ℕ → ℕ → Type 0
IsFirstBad form at = IsFirstWrong form at ⊎ IsLeftOver form at
