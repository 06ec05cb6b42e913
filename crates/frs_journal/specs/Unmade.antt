-- Slots that aren't valid, and the fresh one.
use Rattle.std.specs.Prelude.{ℕ, ◌≡◌, ◌⊎◌, false, List, [], ◌∷◌, Option, None}
use Rattle.frs_disk.specs.Crashes.{Crash}
use Rattle.frs_journal.specs.Gates.{OrSame}
use Rattle.frs_journal.specs.Opens.{SameList}
use Rattle.frs_journal.specs.Slots.{generation_of, is_bad}

-- no valid slot is there, nor one with another magic
pub record IsNone (c : List ℕ) : Type 0 where
  pub fine : is_bad c ≡ false
  pub unmarked : generation_of c ≡ None

-- the fresh slot behind the gate of its header
abbrev pub fresh_body : List ℕ
fresh_body = 70 ∷ 82 ∷ 83 ∷ 74 ∷ 82 ∷ 78 ∷ 48 ∷ 49 ∷ 1 ∷ 0 ∷ 0 ∷ 0 ∷ 0 ∷ 0 ∷ 0 ∷ 0 ∷ 0 ∷ 0 ∷ 0 ∷ 0 ∷ 0 ∷ 0 ∷ 0 ∷ 0 ∷ 0 ∷ []

-- no slot is there, or the fresh one
abbrev pub IsBegun : List ℕ → Type 0
IsBegun c = IsNone c ⊎ (c ≡ 1 ∷ fresh_body)

-- what a load does to the disks of two slots with these bytes: it cuts the one that is taken behind its list, or makes the fresh slot in slot a where neither is valid
abbrev pub Opening : List ℕ → List ℕ → Option (List Crash) → Option (List Crash) → Option (List Crash) → Option (List Crash) → Type 0
Opening xs ys a a' b b' =
    (OrSame (SameList xs) a a' × (b' ≡ b))
    ⊎ (((a' ≡ a) × OrSame (SameList ys) b b')
    ⊎ (IsNone xs × IsNone ys × OrSame IsBegun a a' × (b' ≡ b)))
