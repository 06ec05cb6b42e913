-- The numbers of the statuses.
use Rattle.std.specs.Prelude.{ℕ}
use Rattle.slot_probe.specs.declared.status.Status.{Status}
use Rattle.slot_probe.specs.declared.status.Status.TheVariants.{Done, Usage, ReadFault, WriteFault, DiskFault, TooLarge, Memory}

-- what the process ends with
abbrev pub code_of : Status → ℕ
code_of Done = 0
code_of Usage = 2
code_of ReadFault = 4
code_of WriteFault = 5
code_of DiskFault = 6
code_of TooLarge = 8
code_of Memory = 9
