use Rattle.std.proofs.Common.{◌≡◌, take, length, None, vec_capacity}
use Rattle.frs_pmap.specs.Nodes.{AreGroups, group_rows}
use Rattle.frs_pmap.proofs.whole.whole_share.Given as goal

abbrev pub invariant-loop-at : goal.invariant-loop-at
invariant-loop-at g l = record {
  rows : group_rows l.whole.items.items ≡ group_rows l.initial.whole.items.items;
  groups : AreGroups l.whole.items.items;
  shared : l.whole.shared ≡ None;
  row : l.row ≡ take l.at (group_rows l.initial.whole.items.items);
  len : length l.whole.items.items ≡ length l.initial.whole.items.items;
  capacity : vec_capacity l.whole.items ≡ vec_capacity l.initial.whole.items;
}
