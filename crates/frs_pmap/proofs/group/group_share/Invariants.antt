use Rattle.std.proofs.Common.{◌≡◌, take, length, None, vec_capacity}
use Rattle.frs_pmap.specs.Nodes.{AreParts, part_rows}
use Rattle.frs_pmap.proofs.group.group_share.Given as goal

abbrev pub invariant-loop-at : goal.invariant-loop-at
invariant-loop-at g l = record {
  rows : part_rows l.group.items.items ≡ part_rows l.initial.group.items.items;
  parts : AreParts l.group.items.items;
  shared : l.group.shared ≡ None;
  row : l.row ≡ take l.at (part_rows l.initial.group.items.items);
  len : length l.group.items.items ≡ length l.initial.group.items.items;
  capacity : vec_capacity l.group.items ≡ vec_capacity l.initial.group.items;
}
