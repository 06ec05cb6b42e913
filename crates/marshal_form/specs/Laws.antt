-- What holds of every form.
use Rattle.std.specs.Prelude.{◌≡◌, ◌⊎◌, ◌<◌, ◌^◌, ℕ, List, All, length}
use Rattle.marshal_form.specs.declared.meta.Meta.{Meta}
use Rattle.marshal_form.specs.Spelling.{IsFile, spelling}
use Rattle.marshal_form.specs.Fields.{IsFirstBad, IsForm}
use Rattle.marshal_form.specs.Local.{IsFirstBadLocal, IsLocalForm}

-- the spelling of a file is a form of it
abbrev pub SpellingsAreForms : Type 0
SpellingsAreForms = (meta : Meta) (contents : List ℕ) → meta.attributes < 2 ^ 32 → IsFile meta → length contents < 2 ^ 64 → IsForm (spelling meta contents) meta contents

-- bytes that are a form of a file are its spelling
abbrev pub FormsAreSpellings : Type 0
FormsAreSpellings = (form : List ℕ) (meta : Meta) (contents : List ℕ) → All (λ b. b < 256) form → IsForm form meta contents → form ≡ spelling meta contents

-- a form is of one file
abbrev pub FormsHaveOneValue : Type 0
FormsHaveOneValue = (form : List ℕ) (meta other : Meta) (contents others : List ℕ) → IsForm form meta contents → IsForm form other others → (meta ≡ other) × (contents ≡ others)

-- no bytes are a form and have a first bad place
abbrev pub FormsHaveNoBadPlace : Type 0
FormsHaveNoBadPlace = (form : List ℕ) (meta : Meta) (contents : List ℕ) (at : ℕ) → IsForm form meta contents → IsFirstBad form at → ⊥

-- one place is the first bad one
abbrev pub BadPlacesAreOne : Type 0
BadPlacesAreOne = (form : List ℕ) (at other : ℕ) → IsFirstBad form at → IsFirstBad form other → at ≡ other

-- bytes are a form of some file, or have a first bad place
abbrev pub EveryOtherHasABadPlace : Type 0
EveryOtherHasABadPlace = (form : List ℕ) → ((meta : Meta) × (contents : List ℕ) × IsForm form meta contents) ⊎ ((at : ℕ) × IsFirstBad form at)

-- no bytes are the form of a local file and have a place at which they aren't
abbrev pub LocalFormsHaveNoBadPlace : Type 0
LocalFormsHaveNoBadPlace = (form contents : List ℕ) (at : ℕ) → IsLocalForm form contents → IsFirstBadLocal form at → ⊥

-- one place is the first at which bytes are no form of a local file
abbrev pub LocalBadPlacesAreOne : Type 0
LocalBadPlacesAreOne = (form : List ℕ) (at other : ℕ) → IsFirstBadLocal form at → IsFirstBadLocal form other → at ≡ other
