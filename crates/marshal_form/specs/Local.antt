-- Forms of local files, whose attributes are 0x20.
use Rattle.std.specs.Prelude.{◌≡◌, ◌≢◌, ◌⊎◌, ℕ, List}
use Rattle.marshal_form.specs.declared.meta.Meta.{Meta}
use Rattle.marshal_form.specs.Fields.{IsFirstBad, IsForm}

-- what is kept of a local file
abbrev pub local : Meta
local = record { attributes = 0x20 }

-- the form of a local file with these contents
abbrev pub IsLocalForm : List ℕ → List ℕ → Type 0
IsLocalForm form contents = IsForm form local contents

-- the form of a file with other attributes
abbrev pub IsForeignForm : List ℕ → Type 0
IsForeignForm form = (meta : Meta) × (contents : List ℕ) × IsForm form meta contents × (meta.attributes ≢ 0x20)

-- the first place at which bytes are no form of a local file: they are no form there, or it is the place of the attributes
abbrev pub IsFirstBadLocal : List ℕ → ℕ → Type 0
IsFirstBadLocal form at = IsFirstBad form at ⊎ (IsForeignForm form × (at ≡ 24))
