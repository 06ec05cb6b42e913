-- What is true of the objects of every volume.
use Rattle.std.specs.Prelude.{⊤, ◌≡◌, ◌<◌, ℕ, true, List, [], ◌∷◌, Option, Some, None}
use Rattle.vol_state.specs.declared.object.Object.{Object}
use Rattle.frs_base.specs.Options.{In}
use Rattle.vol_state.specs.Places.{is_directory_at, is_child, ends_in}

-- each number is above those before it, and above low
abbrev pub AreRising : ℕ → List Object → Type 0
AreRising low [] = ⊤
AreRising low (o ∷ os) = (low < o.fid) × AreRising o.fid os

-- the place is limbo, or in the root or a directory
abbrev pub IsHome : List Object → Option (ℕ × List ℕ) → Type 0
IsHome objects None = ⊤
IsHome objects (Some place) = is_directory_at objects place.0 ≡ true

-- climbing comes to an end, so there is no cycle above
abbrev pub Ends : List Object → ℕ → Type 0
Ends objects fid = (n : ℕ) × (ends_in objects n fid ≡ true)

-- numbers rise; places are in directories and lead to the root or to limbo; matching names in one directory are one object
pub record IsTree (objects : List Object) : Type 0 where
  pub rising : AreRising 0 objects
  pub homes : (o : Object) → In o objects → IsHome objects o.place
  pub ends : (o : Object) → In o objects → Ends objects o.fid
  pub apart : (a b : Object) (parent : ℕ) (name : List ℕ) → In a objects → In b objects → is_child parent name a ≡ true → is_child parent name b ≡ true → a ≡ b
