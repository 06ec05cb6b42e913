use Rattle.std.proofs.Common.{◌≡◌, ◌-◌, ◌^◌, length, take}
use Rattle.std.specs.Prelude.{min}
use Rattle.frs_pmap.specs.Trees.{entries_of}
use Rattle.frs_pmap.proofs.lengths.root_len.Given as goal

abbrev pub invariant-loop-at : goal.invariant-loop-at
invariant-loop-at g l = l.len ≡ min (length (entries_of (take l.at l.root))) (2 ^ 64 - 1)
