use Rattle.std.proofs.Common.{◌≡◌, ◌∙◌, ◌<◌, [], eqb, length, get_or, Some, sym, ap, rules}
use Rattle.std.specs.List.{slice_split}
use Rattle.std.proofs.lemmas.Iterator.Consumers.{YieldsList-at}
use Rattle.std.proofs.lemmas.Iterator.Splits.{YieldsList-from_slice_split}
use Rattle.wire_rows.specs.Reading.{all_bytes}
use Rattle.wire_rows.proofs.Words.{fails_at, next_word, word_turn, words_end}
use Rattle.wire_rows.proofs.reading.pieces_in.Goals as goal
use Rattle.wire_rows.proofs.reading.pieces_in.Goals.{In-Some}

-- the word that the loop is at
word_at : (c : In-Some) → (length c.loop-word.yielded < length (slice_split (λ b. eqb b 32) c.args.words.now)) × (get_or (slice_split (λ b. eqb b 32) c.args.words.now) (length c.loop-word.yielded) [] ≡ c.in-Some.word.now)
word_at c =
    word_turn c.loop-word.yielded _ c.loop-word.yielded_by _ _ c.in-Some.word c.in-Some.is c.next.ensures.steps
    (YieldsList-at c.into_iter-word-iterator.ensures.into_iter_gives
    (YieldsList-from_slice_split _ (λ b. eqb b 32) c.args.words.now c.split-word-items.ensures.rest c.split-word-items.ensures.done c.split-word-items.ensures.closure (λ x b q h. search rules)))

pub returns-in-Err : goal.returns-in-Err
returns-in-Err c =
    let (within, at) = word_at (goal.at.returns-in-Err c).In-Some in
    fails_at _ _ _ _ within at c.in-Err.ensures

pub loop-word-preserved : goal.loop-word-preserved
loop-word-preserved c =
    let (within, at) = word_at (goal.at.loop-word-preserved c).In-Some in
    record {
      can = search rules;
      finite = search rules;
      so_far = next_word _ c.loop-word.yielded c.in-Some.word c.loop-word.pieces.items _ c.in-Ok.bytes within at c.loop-word.invariant.so_far c.in-Ok.ensures c.in_ok-push-in-Ok.ensures.items;
    }

pub returns : goal.returns
returns c =
    let all = words_end c.loop-word.yielded _ c.loop-word.yielded_by _ _ c.in-None.is c.next.ensures.steps
    (YieldsList-at c.into_iter-word-iterator.ensures.into_iter_gives
    (YieldsList-from_slice_split _ (λ b. eqb b 32) c.args.words.now c.split-word-items.ensures.rest c.split-word-items.ensures.done c.split-word-items.ensures.closure (λ x b q h. search rules))) in
    ap all_bytes (sym all) ∙ c.loop-word.invariant.so_far ∙ ap Some (sym c.of.ensures)
