use Rattle.std.proofs.Common.{◌≡◌, drop}
use Rattle.name_rules.specs.Rows.{names_cmp}
use Rattle.name_rules.proofs.rows.compare_names.Given as goal

-- the names so far are the same
abbrev pub invariant-loop-at : goal.invariant-loop-at
invariant-loop-at l = names_cmp (drop l.at l.a) (drop l.at l.b) ≡ names_cmp l.a l.b
