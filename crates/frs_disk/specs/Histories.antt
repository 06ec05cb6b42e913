-- What contracts see of the contents of a disk in memory.
use Rattle.std.specs.Prelude.{ℕ, List}
use Rattle.frs_disk.specs.Crashes.{Crash}

-- the states, the newest first, and for how many bytes there is room
pub record HistoryState : Type 0 where
  pub states : List Crash
  pub spare_bytes : ℕ
