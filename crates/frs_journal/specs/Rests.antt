-- What an open journal keeps of its disks.
use Rattle.std.specs.Prelude.{ℕ, ◌≡◌, ◌≤◌, ◌+◌, ◌-◌, ◌∷◌, [], ◌++◌, ◌%◌, ◌^◌, Bool, List, length, map, Option}
use Rattle.std.specs.List.{All}
use Rattle.frs_base.specs.Machines.{Rules, Runs}
use Rattle.frs_disk.specs.Crashes.{Crash, IsImage, Leaves, still}
use Rattle.frs_disk.specs.Moments.{Now, Since}
use Rattle.frs_journal.specs.Loads.{IsMark}
use Rattle.frs_journal.specs.Slots.{IsShort, Yields, generation_of, slot_front, wire}

-- the disk of the current slot is at rest with the commands that lead to the state, and the other slot yields to it
pub record Rests {S C : Type 0} (law : Rules S C) (state : S) (in_b : Bool) (end serial : ℕ) (s : Crash) (other : Option (List Crash)) : Type 0 where
  pub commands : List C
  pub mark : List (List ℕ)
  pub saved : ℕ
  pub generation : ℕ
  pub first : ℕ
  pub closing : ℕ
  pub marked : IsMark mark saved
  pub enough : saved ≤ length commands
  pub closed : closing ≡ 1 → ⊥
  pub known : All law.is_cmd commands
  pub short : All IsShort (mark ++ map law.code commands)
  pub bytes : s ≡ still (slot_front generation first (mark ++ map law.code commands) ++ closing ∷ [])
  pub size : length (slot_front generation first (mark ++ map law.code commands)) + 1 ≡ end
  pub count : serial ≡ (wire first + (length commands - saved)) % 2 ^ 64
  pub runs : Runs law.step (law.origin state) commands state
  pub yields : Now (Leaves (Yields in_b (generation_of s.seen))) other

-- the same where the disks tell
abbrev pub Kept : {S C : Type 0} → Rules S C → S → Bool → ℕ → ℕ → Option (List Crash) → Option (List Crash) → Type 0
Kept law state in_b end serial current other = Now (λ s. Rests law state in_b end serial s other) current

-- each two images of these states are so
abbrev pub Pairs : (List ℕ → List ℕ → Type 0) → Crash → Crash → Type 0
Pairs Q s t = (c d : List ℕ) → IsImage s c → IsImage t d → Q c d

-- at every moment since, each two images of the current slot and the other one are so
abbrev pub Always : (List ℕ → List ℕ → Type 0) → Option (List Crash) → Option (List Crash) → Option (List Crash) → Option (List Crash) → Type 0
Always Q current current' other other' = Since (λ s. Since (Pairs Q s) other other') current current'

-- now they are so
abbrev pub AtOnce : (List ℕ → List ℕ → Type 0) → Option (List Crash) → Option (List Crash) → Type 0
AtOnce Q current other = Now (λ s. Now (Pairs Q s) other) current
