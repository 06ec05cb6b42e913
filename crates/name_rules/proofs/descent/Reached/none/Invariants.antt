use Rattle.std.proofs.Common.{◌≡◌, false, replicate}
use Rattle.name_rules.proofs.descent.Reached.none.Given as goal

-- so many flags, all down
abbrev pub invariant-loop-place : goal.invariant-loop-place
invariant-loop-place l = l.flags.items ≡ replicate l._place false
