use Rattle.std.proofs.Common.{◌∙◌, nat_cmp, sym, arith}
use Rattle.std.specs.Cmp.Lexicographic.{slice_cmp}
use Rattle.name_rules.proofs.Lists.{less_past}
use Rattle.name_rules.proofs.rows.compare_names.Goals as goal

pub returns-then-a-b : goal.returns-then-a-b
returns-then-a-b c = sym (less_past (slice_cmp nat_cmp) c.args.a.now c.args.b.now c.loop-at.at (omega arith) (omega arith)) ∙ c.loop-at.invariant
