use Rattle.std.proofs.Common.{map}
use Rattle.name_rules.proofs.Descending.{Descending}
use Rattle.name_rules.proofs.descent.descend.Given as goal

-- the directories among the first of those found were looked at
abbrev pub invariant-loop-next : goal.invariant-loop-next
invariant-loop-next l = Descending (map (λ u. u.now) l.named) l.next l.reached.flags.items l.reached.queue.items l.reached.above.items
