use Rattle.std.proofs.Common.{◌≡◌, drop, map, nat_cmp}
use Rattle.std.specs.Cmp.Lexicographic.{slice_cmp}
use Rattle.frs_base.specs.Names.{fold_unit}
use Rattle.name_rules.proofs.named.compare_folded.Given as goal

-- the units so far are the same
abbrev pub invariant-loop-at : goal.invariant-loop-at
invariant-loop-at l =
    slice_cmp nat_cmp (map fold_unit (drop l.at l.a)) (map fold_unit (drop l.at l.b)) ≡ slice_cmp nat_cmp (map fold_unit l.a) (map fold_unit l.b)
