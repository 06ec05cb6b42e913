-- What a crash may leave of small disks.
use Rattle.std.specs.Prelude.{ℕ, ◌≡◌, ◌⊎◌, ◌↔◌, List, [], ◌∷◌, Option, Some}
use Rattle.frs_disk.specs.Crashes.{Crash, IsImage, cut_to, still, synced, wrote}
use Rattle.frs_disk.specs.Moments.{MayLeave, MightLeave}

-- three bytes, of which the second was written and not synced
abbrev pub WrittenByte : Type 0
WrittenByte = (image : List ℕ) → IsImage (wrote 1 (7 ∷ []) (still (1 ∷ 2 ∷ 3 ∷ []))) image ↔ ((x : ℕ) × (image ≡ 1 ∷ x ∷ 3 ∷ []))

-- one byte, behind which one was written and not synced
abbrev pub NewEnd : Type 0
NewEnd = (image : List ℕ) → IsImage (wrote 1 (7 ∷ []) (still (1 ∷ []))) image ↔ ((image ≡ 1 ∷ []) ⊎ ((x : ℕ) × (image ≡ 1 ∷ x ∷ [])))

-- three bytes that were cut to one and not synced
abbrev pub CutEnd : Type 0
CutEnd = (image : List ℕ) → IsImage (cut_to 1 (still (1 ∷ 2 ∷ 3 ∷ []))) image ↔ ((image ≡ 1 ∷ []) ⊎ ((image ≡ 1 ∷ 2 ∷ []) ⊎ (image ≡ 1 ∷ 2 ∷ 3 ∷ [])))

-- three bytes, of which the second was written and then synced
abbrev pub SyncedByte : Type 0
SyncedByte = (image : List ℕ) → IsImage (synced (wrote 1 (7 ∷ []) (still (1 ∷ 2 ∷ 3 ∷ [])))) image ↔ (image ≡ 1 ∷ 7 ∷ 3 ∷ [])

-- what a crash may leave now might have been left at some moment since
abbrev pub PresentIsMoment : Type 0
PresentIsMoment = (olds : List Crash) (new : Option (List Crash)) (image : List ℕ) → MayLeave new image → MightLeave (Some olds) new image
