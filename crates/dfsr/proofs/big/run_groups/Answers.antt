use Rattle.std.proofs.Common.{◌≡◌, ◌≤◌, ◌+◌, ◌∙◌, ◌++◌, List, length, string_bytes, sym, ap, subst, arith}
use Rattle.std.specs.Prelude.{All}
use Rattle.script_lang.specs.declared.line.Line.{Line}
use Rattle.script_lang.specs.Grammar.{IsLine}
use Rattle.dfsr.specs.Big.{draw, group, groups, next, number_at}
use Rattle.dfsr.specs.Leading.{LeadsOn}
use Rattle.dfsr.proofs.Generated.{group_few, group_more, group_valid, number_more}
use Rattle.dfsr.proofs.Leading.{has_scene_on, lead_further}
use Rattle.dfsr.proofs.big.run_groups.Goals as goal

pub run_lines-requires-clause-lines : goal.run_lines-requires-clause-lines
run_lines-requires-clause-lines c =
    let number = c.draw.result in
    let k = c.loop-done.done + 1 in
    let are : c.deref.result.now ≡ group number k = c.deref.ensures.value ∙ c.in_ok-lines.ensures in
    subst (All IsLine) (sym are) (group_valid number k (omega arith))

pub run_lines-requires-clause-scene : goal.run_lines-requires-clause-scene
run_lines-requires-clause-scene c = has_scene_on c.args.engine.now c.loop-done.engine (groups c.args.seed c.loop-done.done) c.loop-done.invariant.leads c.requires.scene

pub run_lines-requires-clause-room : goal.run_lines-requires-clause-room
run_lines-requires-clause-room c =
    let k = c.loop-done.done + 1 in
    let few : length c.deref.result.now ≤ 2 = subst (λ (ls : List Line). length ls ≤ 2) (sym (c.deref.ensures.value ∙ c.in_ok-lines.ensures)) (group_few c.draw.result k) in
    omega (arith, few, c.loop-done.invariant.within, c.requires.room, c.requires.few)

pub loop-done-preserved : goal.loop-done-preserved
loop-done-preserved c =
    let seed = c.args.seed in
    let k = c.loop-done.done in
    let number : c.next-number.result ≡ number_at seed (k + 1) = c.next-number.ensures ∙ ap next c.loop-done.invariant.number ∙ sym (number_more seed k) in
    let drawn : c.draw.result ≡ draw (number_at seed (k + 1)) = c.draw.ensures ∙ ap draw number in
    let are : c.deref.result.now ≡ group (draw (number_at seed (k + 1))) (k + 1) = c.deref.ensures.value ∙ c.in_ok-lines.ensures ∙ ap (λ d. group d (k + 1)) drawn in
    let few : length c.deref.result.now ≤ 2 = subst (λ (ls : List Line). length ls ≤ 2) (sym are) (group_few (draw (number_at seed (k + 1))) (k + 1)) in
    let whole : groups seed k ++ c.deref.result.now ≡ groups seed (k + 1) = ap (λ ls. groups seed k ++ ls) are ∙ sym (group_more seed k) in
    record {
      number = number;
      within = omega (arith, few, c.in_ok-run_lines.ensures.made, c.loop-done.invariant.within);
      leads = subst (λ ls. LeadsOn c.args.engine.now ls c.run_lines.new.engine) whole
          (lead_further c.args.engine.now c.loop-done.engine c.run_lines.new.engine (groups seed k) c.deref.result.now (string_bytes c.in_ok-run_lines.field-0) c.loop-done.invariant.leads c.in_ok-run_lines.ensures.ok);
    }
