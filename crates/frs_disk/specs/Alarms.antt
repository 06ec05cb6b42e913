-- What a script armed on a disk, and which calls failed.
use Rattle.std.specs.Prelude.{◌≡◌, ◌≤◌, ◌<◌, ◌+◌, ◌-◌, ◌^◌, ◌⊎◌, min, ℕ, zero, suc, Bool, true, false, Option, Some, None, IfSome, is_some, Result, MatchResult, OnErr, List, [], ◌∷◌}
use Rattle.frs_disk.specs.Crashes.{Crash, synced, lost}
use Rattle.frs_disk.specs.Moments.{pushed}
use Rattle.frs_disk.specs.declared.image.Image.{Image}
use Rattle.frs_disk.specs.declared.image.Image.TheVariants.{With, Without}

-- one fault more; a count at its last value stays there
abbrev pub raised : ℕ → ℕ
raised count = min (count + 1) (2 ^ 64 - 1)

-- a count of faults has risen; one that stays at its last value is taken as risen
abbrev pub Rose : ℕ → ℕ → Type 0
Rose before now = raised before ≤ now

-- a call that is to fail: how many calls come before it, and the image that it leaves where it stops the disk
pub record Armed : Type 0 where
  pub before : ℕ
  pub image : Option Image

-- what a contract sees of this: the call that is armed; whether the call that was to stop the disk was reached; how many calls failed, and how many of them weren't armed;
-- whether a call was ever armed; whether the disk can crash; whether it never fails but where a call is armed, and whether an armed call leaves just what was armed
pub record Alarm : Type 0 where
  pub armed : Option Armed
  pub stopped : Bool
  pub faults : ℕ
  pub unarmed : ℕ
  pub was_armed : Bool
  pub can_crash : Bool
  pub quiet : Bool
  pub exact : Bool

-- nothing was armed yet, and nothing failed
pub record IsSilent (alarm : Alarm) : Type 0 where
  pub armed : alarm.armed ≡ None
  pub stopped : alarm.stopped ≡ false
  pub faults : alarm.faults ≡ 0
  pub unarmed : alarm.unarmed ≡ 0
  pub was_armed : alarm.was_armed ≡ false

-- the call of this number is armed, in place of what was armed
abbrev pub armed_at : ℕ → Option Image → Alarm → Alarm
armed_at call image alarm =
    record alarm { armed = Some (record { before = call - 1; image = image }); stopped = false; was_armed = true }

-- the same where the disk can crash
abbrev pub armed_if : Bool → ℕ → Option Image → Alarm → Alarm
armed_if true call image alarm = armed_at call image alarm
armed_if false call image alarm = alarm

-- nothing is armed any more
abbrev pub disarmed : Alarm → Alarm
disarmed alarm = record alarm { armed = None; stopped = false }

-- so many calls fewer come before the armed one
abbrev pub less : ℕ → Option Armed → Option Armed
less n None = None
less n (Some armed) = Some (record { before = armed.before - n; image = armed.image })

-- so many calls were made, none of them the armed one, and none failed
pub record Passes (n : ℕ) (old new : Alarm) : Type 0 where
  pub before : IfSome old.armed (λ armed. n ≤ armed.before)
  pub now : new ≡ record old { armed = less n old.armed }

-- the armed call was reached, and failed
pub record Rings (old new : Alarm) : Type 0 where
  pub image : Option Image
  pub reached : old.armed ≡ Some (record { before = 0; image = image })
  pub now : new ≡ record old { armed = None; stopped = is_some image; faults = raised old.faults }

-- a call failed that wasn't armed
pub record Breaks (old new : Alarm) : Type 0 where
  pub loud : old.quiet ≡ false
  pub faults : Rose old.faults new.faults
  pub unarmed : Rose old.unarmed new.unarmed
  pub rest : new ≡ record old { faults = new.faults; unarmed = new.unarmed }

-- a call that a script may arm failed: the armed one, or one that wasn't armed
abbrev pub Fails : Alarm → Alarm → Type 0
Fails old new = Rings old new ⊎ Breaks old new

-- so many calls were made, and the next one failed
abbrev pub FailsAt : ℕ → Alarm → Alarm → Type 0
FailsAt n old new = (mid : Alarm) × Passes n old mid × Fails mid new

-- some calls were made, and none failed
abbrev pub PassesSome : Alarm → Alarm → Type 0
PassesSome old new = (n : ℕ) × Passes n old new

-- some calls were made, and the last one failed
abbrev pub FailsSome : Alarm → Alarm → Type 0
FailsSome old new = (n : ℕ) × FailsAt n old new

-- what a call does that a script may arm
abbrev pub Ticks : {T E : Type 0} → Result T E → Alarm → Alarm → Type 0
Ticks result old new = MatchResult result (λ _. Passes 1 old new) (λ _. Fails old new)

-- what a function does that makes so many calls
abbrev pub TicksUpTo : {T E : Type 0} → ℕ → Result T E → Alarm → Alarm → Type 0
TicksUpTo n result old new = MatchResult result (λ _. Passes n old new) (λ _. (k : ℕ) × (k < n) × FailsAt k old new)

-- what a call does that no script arms
abbrev pub Counts : {T E : Type 0} → Result T E → Alarm → Alarm → Type 0
Counts result old new = MatchResult result (λ _. new ≡ old) (λ _. Breaks old new)

-- what a reached call leaves by the image that was armed: all as it was; the call done; or not done, nor what was done since the last sync
abbrev pub LeftBy : (Crash → Crash) → (Crash → Crash) → Option Image → Option (List Crash) → Option (List Crash) → Type 0
LeftBy with without None old new = new ≡ old
LeftBy with without (Some With) old new = new ≡ pushed with old
LeftBy with without (Some Without) old new = new ≡ pushed without old

-- the same of the call that is armed
abbrev pub LeftByArmed : (Crash → Crash) → (Crash → Crash) → Option Armed → Option (List Crash) → Option (List Crash) → Type 0
LeftByArmed with without None old new = Unit
LeftByArmed with without (Some armed) old new = LeftBy with without armed.image old new

-- a failed write or cut left what was armed, on a disk that is exact
abbrev pub LeavesWord : {T E : Type 0} → Result T E → (Crash → Crash) → Alarm → Option (List Crash) → Option (List Crash) → Type 0
LeavesWord result change alarm old new =
    OnErr result (alarm.exact ≡ true → LeftByArmed change (λ s. lost (change s)) alarm.armed old new)

-- a failed sync did
abbrev pub SyncLeavesWord : {T E : Type 0} → Result T E → Alarm → Option (List Crash) → Option (List Crash) → Type 0
SyncLeavesWord result alarm old new = OnErr result (alarm.exact ≡ true → LeftByArmed synced lost alarm.armed old new)

-- a call that changes a disk: what it makes of a state, and what a stop leaves that takes it back with all that was done since the last sync
pub record Effect : Type 0 where
  pub done : Crash → Crash
  pub undone : Crash → Crash

-- a write or a cut that makes this change
abbrev pub changes : (Crash → Crash) → Effect
changes change = record { done = change; undone = λ s. lost (change s) }

-- a sync
abbrev pub syncs : Effect
syncs = record { done = synced; undone = lost }

-- of these calls, made in order, the one behind so many others failed, and left what was armed
abbrev pub LeftAt : ℕ → List Effect → Option Armed → Option (List Crash) → Option (List Crash) → Type 0
LeftAt n [] armed old new = ⊥
LeftAt zero (call ∷ calls) armed old new = LeftByArmed call.done call.undone armed old new
LeftAt (suc n) (call ∷ calls) armed old new = LeftAt n calls armed (pushed call.done old) new

-- a function that makes these calls failed at one of them, which left what was armed, on a disk that is exact
abbrev pub CallsLeaveWord : {T E : Type 0} → Result T E → List Effect → Alarm → Alarm → Option (List Crash) → Option (List Crash) → Type 0
CallsLeaveWord result calls before now old new =
    OnErr result (before.exact ≡ true → (n : ℕ) × FailsAt n before now × LeftAt n calls before.armed old new)
