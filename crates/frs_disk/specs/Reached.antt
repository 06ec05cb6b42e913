-- Whether a call of a disk in memory is the armed one.
use Rattle.std.specs.Prelude.{◌≡◌, Some, None}
use Rattle.frs_disk.specs.Alarms.{Alarm, Passes, Rings}
use Rattle.frs_disk.specs.declared.script.Reached.{Reached}
use Rattle.frs_disk.specs.declared.script.Reached.TheVariants.{Passed, Failed, Stopped}

-- what a call does to the alarm, by what it came to
abbrev pub Reaches : Reached → Alarm → Alarm → Type 0
Reaches Passed old new = Passes 1 old new
Reaches Failed old new = (r : Rings old new) × (r.image ≡ None)
Reaches (Stopped image) old new = (r : Rings old new) × (r.image ≡ Some image)
