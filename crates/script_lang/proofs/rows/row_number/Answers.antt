use Rattle.std.proofs.Common.{◌≡◌, ◌∙◌, ◌<◌, ◌+◌, [], eqb, length, get_or, true, false, sym, ap, arith, rules}
use Rattle.std.specs.Prelude.{count_by}
use Rattle.std.proofs.lemmas.Iterator.Consumers.{YieldsList-at}
use Rattle.std.proofs.lemmas.Iterator.Splits.{YieldsList-from_slice_split}
use Rattle.std.proofs.lemmas.List.{length_push}
use Rattle.script_lang.specs.Script.{rows, says_something}
use Rattle.script_lang.proofs.Turns.{count_silent, count_spoken, row_is, row_turn, rows_end}
use Rattle.script_lang.proofs.rows.row_number.Goals as goal
use Rattle.script_lang.proofs.rows.row_number.Goals.{In-Some}

-- the row that the loop is at
row_at : (c : In-Some) → (length c.loop-row.yielded < length (rows c.args.text.now)) × (get_or (rows c.args.text.now) (length c.loop-row.yielded) [] ≡ c.in-Some.row.now)
row_at c =
    row_turn c.loop-row.yielded _ c.loop-row.yielded_by _ _ c.in-Some.row c.in-Some.is c.next.ensures.steps
    (YieldsList-at c.into_iter-row-iterator.ensures.into_iter_gives
    (YieldsList-from_slice_split _ (λ b. eqb b 10) c.args.text.now c.split-row-items.ensures.rest c.split-row-items.ensures.done c.split-row-items.ensures.closure (λ x b q h. search rules)))

pub returns-then-passed-index : goal.returns-then-passed-index
returns-then-passed-index c =
    let (within, at) = row_at (goal.at.returns-then-passed-index c).In-Some in
    let says : says_something (get_or (rows c.args.text.now) (length c.loop-row.yielded) []) ≡ true = ap says_something at ∙ sym c.says_something.ensures ∙ c.if-says_something.true in
    row_is (rows c.args.text.now) (length c.loop-row.yielded) c.args.index (c.loop-row.number + 1) within says
    (sym c.loop-row.invariant.count ∙ c.if-passed-index.true) (ap (λ n. n + 1) c.loop-row.invariant.place)

pub loop-row-preserved-then-says_something : goal.loop-row-preserved-then-says_something
loop-row-preserved-then-says_something c =
    let (within, at) = row_at (goal.at.loop-row-preserved-then-says_something c).In-Some in
    let says : says_something (get_or (rows c.args.text.now) (length c.loop-row.yielded) []) ≡ true = ap says_something at ∙ sym c.says_something.ensures ∙ c.if-says_something.true in
    record {
      can = search rules;
      finite = search rules;
      place = omega (arith, c.loop-row.invariant.place, length_push c.loop-row.yielded c.in-Some.row);
      count = count_spoken (rows c.args.text.now) c.loop-row.yielded c.in-Some.row c.loop-row.passed within says c.loop-row.invariant.count;
      early = omega (arith, c.loop-row.invariant.early, c.if-passed-index.false);
    }

pub loop-row-preserved : goal.loop-row-preserved
loop-row-preserved c =
    let (within, at) = row_at (goal.at.loop-row-preserved c).In-Some in
    let silent : says_something (get_or (rows c.args.text.now) (length c.loop-row.yielded) []) ≡ false = ap says_something at ∙ sym c.says_something.ensures ∙ c.if-says_something.false in
    record {
      can = search rules;
      finite = search rules;
      place = omega (arith, c.loop-row.invariant.place, length_push c.loop-row.yielded c.in-Some.row);
      count = count_silent (rows c.args.text.now) c.loop-row.yielded c.in-Some.row c.loop-row.passed within silent c.loop-row.invariant.count;
      early = c.loop-row.invariant.early;
    }

pub returns : goal.returns
returns c =
    let all = rows_end c.loop-row.yielded _ c.loop-row.yielded_by _ _ c.in-None.is c.next.ensures.steps
    (YieldsList-at c.into_iter-row-iterator.ensures.into_iter_gives
    (YieldsList-from_slice_split _ (λ b. eqb b 10) c.args.text.now c.split-row-items.ensures.rest c.split-row-items.ensures.done c.split-row-items.ensures.closure (λ x b q h. search rules))) in
    omega (arith, c.loop-row.invariant.count, c.loop-row.invariant.early, ap (count_by says_something) all)
