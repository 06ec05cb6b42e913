use Rattle.std.proofs.Common.{◌≡◌, ◌-◌, ◌^◌, length, take}
use Rattle.std.specs.Prelude.{min}
use Rattle.frs_pmap.specs.Trees.{flat}
use Rattle.frs_pmap.proofs.lengths.middle_len.Given as goal

abbrev pub invariant-loop-at : goal.invariant-loop-at
invariant-loop-at g l = l.len ≡ min (length (flat (take l.at l.middle))) (2 ^ 64 - 1)
