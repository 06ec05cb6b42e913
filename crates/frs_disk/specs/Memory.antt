-- What contracts see of a disk in memory.
use Rattle.std.specs.Prelude.{ℕ, List, Option, Some, None, true}
use Rattle.frs_disk.specs.Crashes.{Crash}
use Rattle.frs_disk.specs.Alarms.{Alarm, Armed}
use Rattle.frs_disk.specs.Starts.{Start}
use Rattle.frs_disk.specs.declared.script.ArmedCall.{ArmedCall}
use Rattle.frs_disk.specs.declared.script.Script.{Script}

-- the states, the newest first, what a script armed, how the disk was when it was made, and for how many bytes there is room
pub record MemState : Type 0 where
  pub states : List Crash
  pub alarm : Alarm
  pub start : Start
  pub spare_bytes : ℕ

-- the call that is armed
abbrev pub armed_of : Option ArmedCall → Option Armed
armed_of None = None
armed_of (Some call) = Some (record { before = call.before; image = call.image })

-- the alarm of a disk in memory, which can crash, fails where a call is armed alone, and leaves what was armed
abbrev pub alarm_of : Script → Alarm
alarm_of s = record {
  armed = armed_of s.armed;
  stopped = s.stopped;
  faults = s.faults;
  unarmed = 0;
  was_armed = s.was_armed;
  can_crash = true;
  quiet = true;
  exact = true;
}
