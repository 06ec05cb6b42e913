use Rattle.std.proofs.Common.{◌≡◌, ◌-◌, ◌≤◌, length, map, take}
use Rattle.std.specs.Prelude.{filter, option_map, slice_get}
use Rattle.frs_pmap.specs.Entries.{is_from}
use Rattle.frs_pmap.proofs.map.Pmap.range.Given as goal

abbrev pub invariant-loop-next : goal.invariant-loop-next
invariant-loop-next g l = record {
  keys : l.keys.items ≡ map (λ e. e.0) (take (length l.keys.items) (filter (is_from g.K.Ord.cmp l.low) l.self));
  next : l.next ≡ option_map (λ e. e.0) (slice_get (filter (is_from g.K.Ord.cmp l.low) l.self) (length l.keys.items));
  within : length l.keys.items ≤ l.limit;
}

abbrev pub decreases-loop-next : goal.decreases-loop-next
decreases-loop-next g l = l.limit - length l.keys.items
