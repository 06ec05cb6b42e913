use Rattle.std.proofs.Common.{◌≡◌, ◌≤◌, ◌-◌, ◌++◌, List}
use Rattle.win_order.specs.declared.update.Update.{Update}
use Rattle.pinned_pages.specs.Pages.{IsPage}
use Rattle.pinned_pages.proofs.Pages.{below}
use Rattle.pinned_pages.proofs.page.add_interval.Given as goal

-- the records below what is left of the interval were added
abbrev pub invariant-loop-update : goal.invariant-loop-update
invariant-loop-update l = record {
  db : l.rest.db ≡ l.interval.db;
  high : l.rest.high ≡ l.interval.high;
  low : l.interval.low ≤ l.rest.low;
  added : (added : List Update) × (l.page.items ≡ l.fn.page.items ++ added) × IsPage (below l.interval l.rest.low) l.records added;
}

-- what is left of it becomes less
abbrev pub decreases-loop-update : goal.decreases-loop-update
decreases-loop-update l = l.rest.high - l.rest.low
