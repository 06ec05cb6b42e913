-- Where the disks of members come from.
use Rattle.std.specs.Prelude.{ℕ, ◌≡◌, [], List, Bool, true, false, Option, None}
use Rattle.std.specs.Bool.{MatchBool}
use Rattle.frs_disk.specs.Alarms.{Alarm, IsSilent, raised}
use Rattle.frs_disk.specs.Crashes.{Crash, IsStill, still}
use Rattle.frs_disk.specs.Moments.{Now, Tells}
use Rattle.frs_disk.specs.Starts.{Start, untouched}
use Rattle.frs_disk.specs.declared.rack.DiskSet.{DiskSet}

-- what the disks of a rack have in common: whether they tell their contents; whether they can crash; whether they, and the rack, never fail but where a call is armed;
-- whether an armed call leaves just what was armed; whether they are empty when they are made
pub record Make : Type 0 where
  pub tells : Bool
  pub can_crash : Bool
  pub quiet : Bool
  pub exact : Bool
  pub blank : Bool

-- a disk as the rack makes it: nothing was armed or called on it, and a crash leaves what a read gives
pub record IsMade (make : Make) (states : Option (List Crash)) (alarm : Alarm) (start : Start) : Type 0 where
  pub told : MatchBool make.tells (Tells states) (states ≡ None)
  pub still_now : Now IsStill states
  pub empty : make.blank ≡ true → Now (λ s. s ≡ still []) states
  pub silent : IsSilent alarm
  pub can_crash : alarm.can_crash ≡ make.can_crash
  pub quiet : alarm.quiet ≡ make.quiet
  pub exact : alarm.exact ≡ make.exact
  pub start_is : start ≡ untouched make.blank

-- each disk of the set is so
pub record OfEach {D : Type 0} (P : D → Type 0) (disks : DiskSet D) : Type 0 where
  pub book_a : P disks.book_a
  pub book_b : P disks.book_b
  pub vol_a : P disks.vol_a
  pub vol_b : P disks.vol_b
  pub stage : P disks.stage

-- a count, one more where this is so
abbrev pub raised_if : Bool → ℕ → ℕ
raised_if true count = raised count
raised_if false count = count
