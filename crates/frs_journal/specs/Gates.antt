-- A slot's last gate.
use Rattle.std.specs.Bool.{MatchBool}
use Rattle.std.specs.Prelude.{ℕ, ◌≡◌, ◌≤◌, ◌<◌, ◌⊎◌, nat_le, Bool, true, false, List, [], ◌∷◌, ◌++◌, length, take, Option, Some, None}
use Rattle.frs_disk.specs.Alarms.{Alarm, Armed, FailsAt}
use Rattle.frs_disk.specs.Crashes.{Crash, Leaves, still}
use Rattle.frs_disk.specs.Moments.{Goes, Now, seen_now}
use Rattle.frs_disk.specs.declared.image.Image.{Image}
use Rattle.frs_disk.specs.declared.image.Image.TheVariants.{With, Without}

-- the slot ends with a gate at this place that isn't 1, all of it on the disk
pub record IsAtRest (gate : ℕ) (s : Crash) : Type 0 where
  pub front : List ℕ
  pub closing : ℕ
  pub closed : closing ≡ 1 → ⊥
  pub state : s ≡ still (front ++ closing ∷ [])
  pub place : length front ≡ gate

-- the front stands, and where the gate behind it is 1 the body stands behind that
pub record Gated (front body image : List ℕ) : Type 0 where
  pub gate : ℕ
  pub rest : List ℕ
  pub bytes : image ≡ front ++ gate ∷ rest
  pub whole : gate ≡ 1 → rest ≡ body

-- at each moment since, each image is so gated
abbrev pub Appending : ℕ → List ℕ → Option (List Crash) → Option (List Crash) → Type 0
Appending gate body None new = new ≡ None
Appending gate body (Some ss) new = Goes (Leaves (Gated (take gate (seen_now ss)) body)) (Some ss) new

-- the front stands, and the gate behind it isn't 1
pub record Shut (front c : List ℕ) : Type 0 where
  pub gate : ℕ
  pub rest : List ℕ
  pub bytes : c ≡ front ++ gate ∷ rest
  pub closed : gate ≡ 1 → ⊥

-- at each moment since, each image is so shut
abbrev pub Shutting : ℕ → Option (List Crash) → Option (List Crash) → Type 0
Shutting gate None new = new ≡ None
Shutting gate (Some ss) new = Goes (Leaves (Shut (take gate (seen_now ss)))) (Some ss) new

-- the call that failed, of an append's four, was one of the first two, and each image since is so shut; or it was one of the last two
abbrev pub FailsEarly : ℕ → Alarm → Alarm → Option (List Crash) → Option (List Crash) → Type 0
FailsEarly gate before now old new =
    ((k : ℕ) × (k < 2) × FailsAt k before now × Shutting gate old new) ⊎ ((k : ℕ) × (1 < k) × (k < 4) × FailsAt k before now)

-- whether a read finds the gate opened behind an append's armed call, by how many of the four calls came before it and by what it leaves
abbrev pub lands : ℕ → Option Image → Bool
lands before (Some With) = nat_le 2 before
lands before (Some Without) = false
lands before None = nat_le 3 before

-- a read finds the front, the opened gate and the body; or the front and a gate that isn't 1
abbrev pub Found : ℕ → List ℕ → Bool → Option (List Crash) → Option (List Crash) → Type 0
Found gate body landed None new = new ≡ None
Found gate body landed (Some ss) new =
    Now (λ s. MatchBool landed (s.seen ≡ take gate (seen_now ss) ++ 1 ∷ body) (Shut (take gate (seen_now ss)) s.seen)) new

-- on a disk that fails where a call is armed alone, and leaves what was armed: the armed call was one of an append's four, and a read finds what it leaves
abbrev pub FoundAsArmed : ℕ → List ℕ → Alarm → Option (List Crash) → Option (List Crash) → Type 0
FoundAsArmed gate body alarm old new =
    alarm.quiet ≡ true → alarm.exact ≡ true
    → (call : Armed) × (alarm.armed ≡ Some call) × (call.before < 4) × Found gate body (lands call.before call.image) old new

-- the gate is open, and the body stands behind it, on the disk
abbrev pub Appended : ℕ → List ℕ → Option (List Crash) → Option (List Crash) → Type 0
Appended gate body None new = new ≡ None
Appended gate body (Some ss) new = (more : List Crash) × (new ≡ Some (still (take gate (seen_now ss) ++ 1 ∷ body) ∷ more))

-- a part of the old bytes from the front, or one byte at most
abbrev pub IsCleared : List ℕ → List ℕ → Type 0
IsCleared xs c = (take (length c) xs ≡ c) ⊎ (length c ≤ 1)

-- at each moment since, each image is so cleared
abbrev pub Clearing : Option (List Crash) → Option (List Crash) → Type 0
Clearing None new = new ≡ None
Clearing (Some ss) new = Goes (Leaves (IsCleared (seen_now ss))) (Some ss) new

-- the disk is at rest with these bytes
abbrev pub Has : List ℕ → Option (List Crash) → Type 0
Has xs told = Now (λ s. s ≡ still xs) told

-- after the front and a gate that isn't 1 stand any bytes
pub record Trimmed (end : ℕ) (xs c : List ℕ) : Type 0 where
  pub no_shorter : end ≤ length c
  pub no_longer : length c ≤ length xs
  pub front : take (length c) xs ≡ c

-- at each moment since, each image is a part of the old bytes from the front, with what stands before the end
abbrev pub Trimming : ℕ → Option (List Crash) → Option (List Crash) → Type 0
Trimming end None new = new ≡ None
Trimming end (Some ss) new = Goes (Leaves (Trimmed end (seen_now ss))) (Some ss) new

-- the disk ends there, on the disk
abbrev pub HasCut : ℕ → Option (List Crash) → Option (List Crash) → Type 0
HasCut end None new = new ≡ None
HasCut end (Some ss) new = (more : List Crash) × (new ≡ Some (still (take end (seen_now ss)) ∷ more))

-- at each moment since, each image has Q
abbrev pub OrSame : (List ℕ → Type 0) → Option (List Crash) → Option (List Crash) → Type 0
OrSame Q old new = Goes (Leaves Q) old new

-- at each moment since, each image is cleared, or has the new slot's bytes where its first byte is 1
abbrev pub Renewing : List ℕ → Option (List Crash) → Option (List Crash) → Type 0
Renewing body None new = new ≡ None
Renewing body (Some ss) new = Goes (Leaves (λ c. IsCleared (seen_now ss) c ⊎ Gated [] body c)) (Some ss) new
