use Rattle.std.proofs.Common.{◌≡◌, map, take}
use Rattle.name_rules.proofs.Found.{uids_at}
use Rattle.name_rules.proofs.descent.shown.Given as goal

-- the files at the places so far
abbrev pub invariant-loop-at : goal.invariant-loop-at
invariant-loop-at l = l.uids.items ≡ uids_at (map (λ u. u.now) l.named.items) (take l.at-index l.at-items)
