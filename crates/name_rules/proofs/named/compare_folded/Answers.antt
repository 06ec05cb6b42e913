use Rattle.std.proofs.Common.{◌∙◌, map, nat_cmp, sym, arith}
use Rattle.std.proofs.lemmas.List.{drop-map, length-map}
use Rattle.std.specs.Cmp.Lexicographic.{slice_cmp}
use Rattle.frs_base.specs.Names.{fold_unit}
use Rattle.name_rules.proofs.Lists.{greater_past, less_past}
use Rattle.name_rules.proofs.named.compare_folded.Goals as goal

pub returns-in_default : goal.returns-in_default
returns-in_default c =
    let n = length-map c.args.a.now fold_unit in
    let m = length-map c.args.b.now fold_unit in
    sym (greater_past nat_cmp (map fold_unit c.args.a.now) (map fold_unit c.args.b.now) c.loop-at.at (omega (arith, c.loop-at-test.true)) (omega (arith, c.in_default.ensures.lookup)))
    ∙ (λ i. slice_cmp nat_cmp (drop-map fold_unit c.loop-at.at c.args.a.now i) (drop-map fold_unit c.loop-at.at c.args.b.now i))
    ∙ c.loop-at.invariant

pub returns-then-a-b : goal.returns-then-a-b
returns-then-a-b c =
    let n = length-map c.args.a.now fold_unit in
    let m = length-map c.args.b.now fold_unit in
    sym (less_past nat_cmp (map fold_unit c.args.a.now) (map fold_unit c.args.b.now) c.loop-at.at (omega arith) (omega arith))
    ∙ (λ i. slice_cmp nat_cmp (drop-map fold_unit c.loop-at.at c.args.a.now i) (drop-map fold_unit c.loop-at.at c.args.b.now i))
    ∙ c.loop-at.invariant
