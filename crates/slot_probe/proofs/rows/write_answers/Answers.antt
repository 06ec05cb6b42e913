use Rattle.std.proofs.Common.{◌≡◌, ◌∙◌, ◌+◌, ◌++◌, List, ℕ, sym, ap, subst, arith, drop}
use Rattle.std.specs.Prelude.{string_bytes}
use Rattle.frs_io.specs.Told.{Takes, TakesSome}
use Rattle.frs_io.proofs.Outcomes.{OnErr-of_fact}
use Rattle.frs_io.proofs.Told.{Takes-nil}
use Rattle.slot_probe.proofs.Words.{lacks_byte, parts_at}
use Rattle.slot_probe.proofs.Writing.{SoFar, all_written, moved, nothing_yet, one_row, some_more, some_now}
use Rattle.slot_probe.proofs.rows.write_answers.Goals as goal

pub loop-end-init : goal.loop-end-init
loop-end-init g c =
    let taken = g.K.Sink.taken c.args.out.now in
    subst (SoFar c.args.rows.now c.args.rows.now taken taken) (sym c.new-pending.ensures.bytes) (nothing_yet c.args.rows.now taken (Takes-nil taken))

pub answered-requires : goal.answered-requires
answered-requires g c = (parts_at 10 c.loop-end.rest.now c.in-Some.end (sym c.place_of.ensures ∙ c.in-Some.is)).lacks

pub returns-in_err-said-clause-err : goal.returns-in_err-said-clause-err
returns-in_err-said-clause-err g c = OnErr-of_fact _ (some_now _ _ _ _ _ c.loop-end.invariant)

pub returns-in_err-push_str-clause-err : goal.returns-in_err-push_str-clause-err
returns-in_err-push_str-clause-err g c = OnErr-of_fact _ (some_now _ _ _ _ _ c.loop-end.invariant)

pub returns-in_err-hand_on-clause-err : goal.returns-in_err-hand_on-clause-err
returns-in_err-hand_on-clause-err g c =
    let feed = parts_at 10 c.loop-end.rest.now c.in-Some.end (sym c.place_of.ensures ∙ c.in-Some.is) in
    let pushed = c.in_ok-push_str.ensures.bytes ∙ ap (λ t. string_bytes c.loop-end.pending ++ t) c.as_str.ensures.value in
    let told = one_row _ _ _ _ (string_bytes c.loop-end.pending) (string_bytes c.push_str.new.self) (string_bytes c.in_ok-said.said) c.in-Some.end c.loop-end.invariant feed c.in_ok-said.ensures pushed in
    OnErr-of_fact _ (some_more _ _ _ _ _ _ told c.in_err-hand_on.ensures.err)

pub behind-rest-requires : goal.behind-rest-requires
behind-rest-requires g c =
    let feed = parts_at 10 c.loop-end.rest.now c.in-Some.end (sym c.place_of.ensures ∙ c.in-Some.is) in
    omega (arith, feed.within)

pub loop-end-preserved : goal.loop-end-preserved
loop-end-preserved g c =
    let feed = parts_at 10 c.loop-end.rest.now c.in-Some.end (sym c.place_of.ensures ∙ c.in-Some.is) in
    let pushed = c.in_ok-push_str.ensures.bytes ∙ ap (λ t. string_bytes c.loop-end.pending ++ t) c.as_str.ensures.value in
    let told = one_row _ _ _ _ (string_bytes c.loop-end.pending) (string_bytes c.push_str.new.self) (string_bytes c.in_ok-said.said) c.in-Some.end c.loop-end.invariant feed c.in_ok-said.ensures pushed in
    subst (λ r. SoFar c.args.rows.now r (g.K.Sink.taken c.args.out.now) (g.K.Sink.taken c.hand_on.new.sink) (string_bytes c.hand_on.new.pending)) (sym c.behind-rest.ensures)
    (moved _ _ _ _ _ _ _ told c.in_ok-hand_on.ensures.moved)

pub returns-in_err-write_all-clause-err : goal.returns-in_err-write_all-clause-err
returns-in_err-write_all-clause-err g c =
    let some = subst (TakesSome (g.K.Sink.taken c.loop-end.out) (g.K.Sink.taken c.write_all.new.sink)) c.as_bytes.ensures.value c.in_err-write_all.ensures.err in
    OnErr-of_fact _ (some_more _ _ _ _ _ _ c.loop-end.invariant some)

pub returns-clause-done : goal.returns-clause-done
returns-clause-done g c =
    let all = subst (Takes (g.K.Sink.taken c.loop-end.out) (g.K.Sink.taken c.write_all.new.sink)) c.as_bytes.ensures.value c.in_ok-write_all.ensures.ok in
    all_written _ _ _ _ _ _ c.loop-end.invariant (lacks_byte 10 c.loop-end.rest.now (sym c.place_of.ensures ∙ c.in_default.is)) all
