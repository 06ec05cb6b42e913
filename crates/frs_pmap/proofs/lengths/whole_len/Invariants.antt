use Rattle.std.proofs.Common.{◌≡◌, ◌-◌, ◌^◌, length, take}
use Rattle.std.specs.Prelude.{min}
use Rattle.frs_pmap.specs.Nodes.{entries_under}
use Rattle.frs_pmap.proofs.lengths.whole_len.Given as goal

abbrev pub invariant-loop-at : goal.invariant-loop-at
invariant-loop-at g l = l.len ≡ min (length (entries_under (take l.at l.whole.items.items))) (2 ^ 64 - 1)
