use Rattle.std.proofs.Common.{◌≡◌, ◌+◌, ◌∙◌, [], ◌∷◌, ◌++◌, take, sym, ap, arith}
use Rattle.std.specs.Prelude.{string_bytes}
use Rattle.std.proofs.lemmas.List.{take_more}
use Rattle.std.proofs.lemmas.Result.{on_err_weaker, on_ok_weaker}
use Rattle.frs_io.proofs.Outcomes.{OnErr-of_fact}
use Rattle.dfsr.proofs.Writing.{all_taken, front_is_some, next_line, pending_grows, piece_cut, piece_moved, some_of_all}
use Rattle.dfsr.proofs.script.run_lines.Goals as goal

pub run-requires-clause-scene : goal.run-requires-clause-scene
run-requires-clause-scene g c =
    let (said, s, front, run, stands, takes, split) = c.loop-line.invariant.ran in (s, stands)

pub run-requires-clause-room : goal.run-requires-clause-room
run-requires-clause-room g c = let few = c.well_formed.1.0.1 in let within = c.loop-line.invariant.within in omega (arith, few, within)

pub returns-in_err-text-clause-err : goal.returns-in_err-text-clause-err
returns-in_err-text-clause-err g c =
    let (said, w, front, run, stands, takes, split) = c.loop-line.invariant.ran in
    OnErr-of_fact _ (some_of_all c.args.lines.now c.loop-line.line-index _ _ said w c.requires run (front_is_some _ _ said front _ takes split))

pub returns-in_err-push_str-clause-err : goal.returns-in_err-push_str-clause-err
returns-in_err-push_str-clause-err g c =
    let (said, w, front, run, stands, takes, split) = c.loop-line.invariant.ran in
    OnErr-of_fact _ (some_of_all c.args.lines.now c.loop-line.line-index _ _ said w c.requires run (front_is_some _ _ said front _ takes split))

pub returns-in_err-hand_on-clause-err : goal.returns-in_err-hand_on-clause-err
returns-in_err-hand_on-clause-err g c =
    let (said, w, front, run, stands, takes, split) = c.loop-line.invariant.ran in
    let (new, does, then_stands) = c.in_ok-text.ensures.ok w stands in
    let lines = c.args.lines.now in
    let i = c.loop-line.line-index in
    let line = c.line-item.result in
    let more : take (i + 1) lines ≡ take i lines ++ line ∷ [] = take_more lines i line c.loop-line-test.true ∙ ap (λ l. take i lines ++ l ∷ []) (sym c.line-item.is) in
    let text = string_bytes c.in_ok-text.text in
    let pushed : string_bytes c.push_str.new.self ≡ string_bytes c.loop-line.pending ++ text = c.in_ok-push_str.ensures.bytes ∙ ap (λ t. string_bytes c.loop-line.pending ++ t) c.as_str.ensures.value in
    let grown = pending_grows said front (string_bytes c.loop-line.pending) text (string_bytes c.push_str.new.self) split pushed in
    OnErr-of_fact _ (some_of_all lines (i + 1) _ _ (said ++ text) new c.requires (next_line lines i line said w text new more run does)
    (piece_cut _ _ _ (said ++ text) front _ takes grown c.in_err-hand_on.ensures.err))

pub loop-line-preserved : goal.loop-line-preserved
loop-line-preserved g c =
    let (said, w, front, run, stands, takes, split) = c.loop-line.invariant.ran in
    let (new, does, then_stands) = c.in_ok-text.ensures.ok w stands in
    let lines = c.args.lines.now in
    let i = c.loop-line.line-index in
    let line = c.line-item.result in
    let more : take (i + 1) lines ≡ take i lines ++ line ∷ [] = take_more lines i line c.loop-line-test.true ∙ ap (λ l. take i lines ++ l ∷ []) (sym c.line-item.is) in
    let text = string_bytes c.in_ok-text.text in
    let pushed : string_bytes c.push_str.new.self ≡ string_bytes c.loop-line.pending ++ text = c.in_ok-push_str.ensures.bytes ∙ ap (λ t. string_bytes c.loop-line.pending ++ t) c.as_str.ensures.value in
    let grown = pending_grows said front (string_bytes c.loop-line.pending) text (string_bytes c.push_str.new.self) split pushed in
    let (taken, takes_more, rest) = piece_moved _ _ _ (said ++ text) front _ _ takes grown c.in_ok-hand_on.ensures.moved in
    record {
      within = c.in_ok-text.ensures.within i c.loop-line.invariant.within;
      later = omega (arith, c.in_ok-hand_on.ensures.cause.later);
      ran = (said ++ text, new, taken, next_line lines i line said w text new more run does, then_stands, takes_more, rest);
    }

pub returns-clause-ok : goal.returns-clause-ok
returns-clause-ok g c =
    let (said, w, front, run, stands, takes, split) = c.loop-line.invariant.ran in
    let parts : said ≡ front ++ c.as_bytes.result.now = split ∙ ap (λ p. front ++ p) (sym c.as_bytes.ensures.value) in
    on_ok_weaker c.write_all.result (λ taken. all_taken c.args.lines.now c.loop-line.line-index _ _ _ said front _ w (omega arith) run takes parts taken) c.write_all.ensures.ok

pub returns-clause-err : goal.returns-clause-err
returns-clause-err g c =
    let (said, w, front, run, stands, takes, split) = c.loop-line.invariant.ran in
    let parts : said ≡ front ++ c.as_bytes.result.now = split ∙ ap (λ p. front ++ p) (sym c.as_bytes.ensures.value) in
    on_err_weaker c.write_all.result (λ some. some_of_all c.args.lines.now c.loop-line.line-index _ _ said w c.requires run (piece_cut _ _ _ said front _ takes parts some)) c.write_all.ensures.err
