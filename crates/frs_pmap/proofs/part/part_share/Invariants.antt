use Rattle.std.proofs.Common.{◌≡◌, take}
use Rattle.frs_pmap.specs.Entries.{seen}
use Rattle.frs_pmap.proofs.part.part_share.Given as goal

abbrev pub invariant-loop-at : goal.invariant-loop-at
invariant-loop-at g l = l.row ≡ take l.at (seen l.part.items.items)
