-- How bytes are refused.
use Rattle.std.specs.Prelude.{◌≡◌, ◌++◌, ℕ, List, Result, Ok, Err, codes, decimal}
use Rattle.marshal_form.specs.declared.errors.MarshalBad.{MarshalBad}
use Rattle.marshal_form.specs.Fields.{Field, IsRight}

-- a call takes a field that is right, and refuses another by its place
abbrev pub Checks : {T : Type 0} → Result T MarshalBad → List ℕ → Field → Type 0
Checks (Ok value) form field = IsRight form field
Checks (Err bad) form field = (¬ IsRight form field) × (bad.at ≡ field.at)

-- the text of a refusal: the place
abbrev pub bad_text : MarshalBad → List ℕ
bad_text bad = codes "no marshalled form at byte " ++ decimal bad.at
