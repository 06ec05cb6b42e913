use Rattle.std.proofs.Common.{take}
use Rattle.version_vector.specs.Versions.{covers}
use Rattle.pinned_pages.specs.Pages.{IsPage}
use Rattle.pinned_pages.proofs.pinned.Pinned.page.Given as goal

-- the records of the intervals so far
abbrev pub invariant-loop-interval : goal.invariant-loop-interval
invariant-loop-interval l = IsPage (covers (take l.interval-index l.asked)) l.self.records l.page.items
