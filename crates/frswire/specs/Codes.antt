-- The numbers of the statuses.
use Rattle.std.specs.Prelude.{ℕ}
use Rattle.frswire.specs.declared.status.Status.{Status}
use Rattle.frswire.specs.declared.status.Status.TheVariants.{Done, Usage, RowBad, ReadFault, WriteFault, TooLarge, Memory}

-- what the process ends with
abbrev pub code_of : Status → ℕ
code_of Done = 0
code_of Usage = 2
code_of RowBad = 3
code_of ReadFault = 4
code_of WriteFault = 5
code_of TooLarge = 8
code_of Memory = 9
