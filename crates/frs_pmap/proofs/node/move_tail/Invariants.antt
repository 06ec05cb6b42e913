use Rattle.std.proofs.Common.{◌≡◌, ◌+◌, ◌≤◌, ◌++◌, vec_len, vec_capacity}
use mathlib.Core.List.{reverse}
use Rattle.frs_pmap.proofs.node.move_tail.Given as goal

abbrev pub invariant-loop-items : goal.invariant-loop-items
invariant-loop-items g l = record {
  whole : l.items.items ++ reverse l.back.items ≡ l.initial.items.items;
  low : l.at ≤ vec_len l.items;
  len : vec_len l.items + vec_len l.back ≡ vec_len l.initial.items;
  capacity : vec_capacity l.items ≡ vec_capacity l.initial.items;
  back_capacity : vec_capacity l.back ≡ vec_capacity l.initial.back;
}

abbrev pub decreases-loop-items : goal.decreases-loop-items
decreases-loop-items g l = vec_len l.items
