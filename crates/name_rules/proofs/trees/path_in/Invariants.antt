use Rattle.std.proofs.Common.{◌≡◌, take}
use Rattle.name_rules.proofs.trees.path_in.Given as goal

-- the names so far
abbrev pub invariant-loop-other : goal.invariant-loop-other
invariant-loop-other l = l.path.items ≡ take l.other-index l.above
