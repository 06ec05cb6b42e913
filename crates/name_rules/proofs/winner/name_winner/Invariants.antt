use Rattle.std.proofs.Common.{option_map, take}
use Rattle.name_rules.proofs.Winning.{Leads}
use Rattle.name_rules.proofs.winner.name_winner.Given as goal

-- of those so far, the winner leads
abbrev pub invariant-loop-update : goal.invariant-loop-update
invariant-loop-update l = Leads (take l.update-index l.records) l.parent l.name (option_map (λ u. u.now) l.winner)
