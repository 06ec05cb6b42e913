-- The first file that passes a test.
use Rattle.std.specs.Prelude.{◌≡◌, ◌⊎◌, Bool, true, false, List, [], ◌∷◌, Option, Some, None}
use Rattle.frs_base.specs.declared.version.Uid.{Uid}

-- the first of which a test answers true, or it answers false of each
abbrev pub IsFirstPassing : (Uid → Bool → Type 0) → List Uid → Option Uid → Type 0
IsFirstPassing Answers [] found = found ≡ None
IsFirstPassing Answers (uid ∷ uids) found = (Answers uid true × (found ≡ Some uid)) ⊎ (Answers uid false × IsFirstPassing Answers uids found)
