-- What a disk in memory keeps of its states.
use Rattle.std.specs.Prelude.{ℕ, ◌≡◌, ◌≤◌, ◌++◌, List, length, take}
use Rattle.frs_disk.specs.Crashes.{Crash, Stands}
use Rattle.frs_disk.specs.Moments.{top, seen_now}

-- the bytes that a read gives, and those of the last sync, as so many first ones of these and what stood behind them, with the states that the disk went through
pub record IsKept (bytes : List ℕ) (clean : ℕ) (behind : List ℕ) (states : List Crash) : Type 0 where
  pub read : bytes ≡ seen_now states
  pub safe : take clean bytes ++ behind ≡ (top states).safe
  pub within : clean ≤ length bytes
  pub stands : Stands (top states)
  pub least : (top states).least ≤ length (top states).safe
  pub greatest : length (top states).safe ≤ (top states).greatest
