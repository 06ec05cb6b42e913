-- How it is told that a disk or a rack failed.
use Rattle.std.specs.Prelude.{ℕ, List, codes}
use Rattle.frs_disk.specs.declared.rack.RackError.{RackError}
use Rattle.frs_disk.specs.declared.rack.RackError.TheVariants.{Failed, Memory}

-- of a disk
abbrev pub failed_text : List ℕ
failed_text = codes "the disk failed"

-- why no disks were made
abbrev pub rack_error_text : RackError → List ℕ
rack_error_text Failed = codes "the rack failed"
rack_error_text Memory = codes "memory ran out while disks were made"
