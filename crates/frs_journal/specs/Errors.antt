-- How it is told why a journal refused a call, or wasn't opened.
use Rattle.std.specs.Prelude.{◌++◌, ℕ, List, codes, decimal}
use Rattle.frs_journal.specs.declared.faults.ApplyFault.{ApplyFault}
use Rattle.frs_journal.specs.declared.faults.ApplyFault.TheVariants as apply
use Rattle.frs_journal.specs.declared.faults.LoadWhy.{LoadWhy}
use Rattle.frs_journal.specs.declared.faults.LoadWhy.TheVariants as why
use Rattle.frs_journal.specs.declared.faults.Slot.{Slot}
use Rattle.frs_journal.specs.declared.faults.Slot.TheVariants.{A, B}

-- the name of a slot
abbrev pub slot_text : Slot → List ℕ
slot_text A = codes "a"
slot_text B = codes "b"

-- why a command wasn't taken
abbrev pub apply_fault_text : ApplyFault → List ℕ
apply_fault_text apply.Memory = codes "memory ran out"
apply_fault_text (apply.DiskFault count) = codes "the disk failed, " ++ (decimal count ++ codes " times by now")
apply_fault_text (apply.JournalFull length) = codes "the journal would have " ++ (decimal length ++ codes " bytes")
apply_fault_text apply.Shut = codes "the journal is shut"

-- why a journal wasn't opened
abbrev pub load_why_text : LoadWhy → List ℕ
load_why_text why.Memory = codes "memory ran out"
load_why_text (why.DiskFault count) = codes "a disk failed, " ++ (decimal count ++ codes " times by now")
load_why_text (why.Damaged slot offset) =
    codes "slot " ++ (slot_text slot ++ (codes " is damaged from byte " ++ (decimal offset ++ codes " on")))
