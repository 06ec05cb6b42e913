use Rattle.std.proofs.Common.{map}
use Rattle.name_rules.proofs.Rooted.{AreRowsSoFar}
use Rattle.name_rules.proofs.trees.rows_of.Given as goal

-- the rows so far
abbrev pub invariant-loop-next : goal.invariant-loop-next
invariant-loop-next l = AreRowsSoFar (map (λ u. u.now) l.named) l.reached.queue.items l.reached.above.items l.next l.rows.items
