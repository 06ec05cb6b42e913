use Rattle.std.proofs.Common.{◌≡◌, ◌-◌, ◌+◌, Option, Some, None, length, take}
use Rattle.std.specs.Prelude.{slice_get}
use Rattle.record_db.proofs.Maps.{IsPlaced}
use Rattle.frs_pmap.specs.Entries.{lent}
use Rattle.record_db.proofs.record_table.RecordTable.rows.Given as goal

-- the first of the records were copied, and the next is the one behind them
abbrev pub invariant-loop-next : goal.invariant-loop-next
invariant-loop-next l = record {
  rows : l.rows.items ≡ take (length l.rows.items) l.self.items;
  next : IsPlaced l.self.items (length l.rows.items) (lent l.next);
}

abbrev pub decreases-loop-next : goal.decreases-loop-next
decreases-loop-next l = length l.self.items - length l.rows.items
