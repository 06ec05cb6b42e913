use Rattle.std.proofs.Common.{◌∷◌, [], length, sym, ap, subst, ◌∙◌, arith}
use Rattle.std.proofs.lemmas.List.{length-append}
use Rattle.name_tests.specs.Born.{AreBornInOrder}
use Rattle.name_tests.proofs.Births.{born_next}
use Rattle.name_tests.proofs.worlds.records_of.Goals as goal

pub loop-at-preserved : goal.loop-at-preserved
loop-at-preserved c =
    let (long, born) = c.loop-at.invariant in
    let more = c.in_ok-push.ensures.items in
    let n = length-append c.loop-at.records.items (c.in_ok-record.field-0 ∷ []) in (
      ap length more ∙ n ∙ omega (arith, long),
      subst AreBornInOrder (sym more) (born_next c.loop-at.records.items c.loop-at.at c.in_ok-record.field-0 long born c.in_ok-record.ensures.file c.in_ok-record.ensures.version),
    )
