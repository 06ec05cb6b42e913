use Rattle.std.proofs.Common.{◌≡◌, ◌∙◌, ◌<◌, ◌+◌, ◌-◌, [], ◌++◌, eqb, length, get_or, take, Err, sym, ap, subst, arith, rules, append-nil}
use Rattle.std.specs.Prelude.{option_to_list}
use Rattle.std.proofs.lemmas.Iterator.Consumers.{YieldsList-at}
use Rattle.std.proofs.lemmas.Iterator.Splits.{YieldsList-from_slice_split}
use Rattle.std.proofs.lemmas.List.{length_push}
use Rattle.script_lang.specs.Grammar.{HasNoLineFeed}
use Rattle.script_lang.specs.Reading.{Judges}
use Rattle.script_lang.specs.Script.{IsBadRow, SpellLines, rows}
use Rattle.script_lang.proofs.Turns.{first_bad, no_line_feed, row_done, row_turn, rows_end}
use Rattle.script_lang.proofs.parsing.parse_prefix.Goals as goal
use Rattle.script_lang.proofs.parsing.parse_prefix.Goals.{In-Some}

-- the row that the loop is at
row_at : (c : In-Some) → (length c.loop-row.yielded < length (rows c.args.text.now)) × (get_or (rows c.args.text.now) (length c.loop-row.yielded) [] ≡ c.in-Some.row.now)
row_at c =
    row_turn c.loop-row.yielded _ c.loop-row.yielded_by _ _ c.in-Some.row c.in-Some.is c.next.ensures.steps
    (YieldsList-at c.into_iter-row-iterator.ensures.into_iter_gives
    (YieldsList-from_slice_split _ (λ b. eqb b 10) c.args.text.now c.split-row-items.ensures.rest c.split-row-items.ensures.done c.split-row-items.ensures.closure (λ x b q h. search rules)))

pub read_row-requires : goal.read_row-requires
read_row-requires c =
    let (within, at) = row_at (goal.at.read_row-requires c).In-Some in
    subst HasNoLineFeed at (no_line_feed c.args.text.now (length c.loop-row.yielded) [] within)

pub returns-in-Err-Bad : goal.returns-in-Err-Bad
returns-in-Err-Bad c =
    let (within, at) = row_at (goal.at.returns-in-Err-Bad c).In-Some in
    let bad : IsBadRow c.in-Some.row.now = subst (λ e. Judges (Err e) c.in-Some.row.now) c.in-Err-Bad.field-0-is c.in-Err-Bad.ensures in
    let first = first_bad c.args.text.now (length c.loop-row.yielded) (c.loop-row.number + 1) c.in-Some.row.now c.loop-row.lines.items
    (ap (λ n. n + 1) c.loop-row.invariant.count) within at bad c.loop-row.invariant.so_far in
    let place : length c.loop-row.yielded ≡ c.loop-row.number + 1 - 1 = omega (arith, c.loop-row.invariant.count) in
    (first, subst (λ k. SpellLines (take k (rows c.args.text.now)) c.loop-row.lines.items) place c.loop-row.invariant.so_far)

pub loop-row-preserved-in-Continue-1 : goal.loop-row-preserved-in-Continue-1
loop-row-preserved-in-Continue-1 c =
    let (within, at) = row_at (goal.at.loop-row-preserved-in-Continue-1 c).In-Some in
    record {
      can = search rules;
      finite = search rules;
      count = omega (arith, c.loop-row.invariant.count, length_push c.loop-row.yielded c.in-Some.row);
      so_far = row_done (rows c.args.text.now) c.loop-row.yielded c.in-Some.row c.loop-row.lines.items _ c.in-Ok.found within at c.in-Ok.ensures c.loop-row.invariant.so_far
          (c.in_ok-push.ensures.items ∙ ap (λ found. c.loop-row.lines.items ++ option_to_list found) (sym c.in-Some-found.is));
    }

pub loop-row-preserved : goal.loop-row-preserved
loop-row-preserved c =
    let (within, at) = row_at (goal.at.loop-row-preserved c).In-Some in
    record {
      can = search rules;
      finite = search rules;
      count = omega (arith, c.loop-row.invariant.count, length_push c.loop-row.yielded c.in-Some.row);
      so_far = row_done (rows c.args.text.now) c.loop-row.yielded c.in-Some.row c.loop-row.lines.items _ c.in-Ok.found within at c.in-Ok.ensures c.loop-row.invariant.so_far
          (sym (append-nil c.loop-row.lines.items) ∙ ap (λ found. c.loop-row.lines.items ++ option_to_list found) (sym c.in_default.is));
    }

pub returns : goal.returns
returns c =
    let all = rows_end c.loop-row.yielded _ c.loop-row.yielded_by _ _ c.in-None.is c.next.ensures.steps
    (YieldsList-at c.into_iter-row-iterator.ensures.into_iter_gives
    (YieldsList-from_slice_split _ (λ b. eqb b 10) c.args.text.now c.split-row-items.ensures.rest c.split-row-items.ensures.done c.split-row-items.ensures.closure (λ x b q h. search rules))) in
    subst (λ rs. SpellLines rs c.loop-row.lines.items) all c.loop-row.invariant.so_far
