use Rattle.std.proofs.Common.{◌≡◌, ◌∙◌, ◌+◌, ◌++◌, [], length, sym, ap, subst, arith}
use Rattle.std.specs.Prelude.{string_bytes}
use Rattle.frs_io.specs.Told.{TakesSome}
use Rattle.frs_io.proofs.Outcomes.{OnErr-of_fact}
use Rattle.frs_io.proofs.Told.{Takes-nil}
use Rattle.frswire.specs.Rows.{bad_line}
use Rattle.frswire.specs.Steps.{IsNext}
use Rattle.frswire.proofs.Writing.{SoFar, all_written, bad_some, bad_written, long_written, moved, next_row, nothing_yet, number_fits, row_there, some_more, some_now}
use Rattle.frswire.proofs.rows.write_rows.Goals as goal

pub rows-init : goal.rows-init
rows-init g c =
    let taken = g.K.Sink.taken c.args.out.now in
    record {
      later = omega arith;
      told = subst (SoFar c.args.bytes.now c.args.bytes.now 0 taken taken) (sym c.new-pending.ensures.bytes) (nothing_yet c.args.bytes.now taken (Takes-nil taken));
    }

pub overflow_add-number : goal.overflow_add-number
overflow_add-number g c =
    let few = c.well_formed.1.0.1 in
    let fits = number_fits _ _ _ _ _ _ c.rows.invariant.told in
    omega (arith, few, fits)

pub returns-in_err-said-clause-err : goal.returns-in_err-said-clause-err
returns-in_err-said-clause-err g c = OnErr-of_fact _ (some_now _ _ _ _ _ _ c.rows.invariant.told)

pub returns-in_err-push_str-in-Row-clause-err : goal.returns-in_err-push_str-in-Row-clause-err
returns-in_err-push_str-in-Row-clause-err g c = OnErr-of_fact _ (some_now _ _ _ _ _ _ c.rows.invariant.told)

pub returns-in_err-hand_on-in-Row-clause-err : goal.returns-in_err-hand_on-in-Row-clause-err
returns-in_err-hand_on-in-Row-clause-err g c =
    let next = subst (λ n. IsNext n c.rows.rest.now) c.in-Row.is c.in_ok-said.ensures in
    let pushed = c.in_ok-push_str-in-Row.ensures.bytes ∙ ap (λ t. string_bytes c.rows.pending ++ t) c.as_str.ensures.value in
    let told = next_row _ _ _ _ _ (string_bytes c.rows.pending) (string_bytes c.push_str.new.self) (string_bytes c.in-Row.said) c.in-Row.size c.rows.invariant.told next pushed in
    OnErr-of_fact _ (some_more _ _ _ _ _ _ _ told c.in_err-hand_on-in-Row.ensures.err)

pub behind-rest-requires : goal.behind-rest-requires
behind-rest-requires g c =
    let next = subst (λ n. IsNext n c.rows.rest.now) c.in-Row.is c.in_ok-said.ensures in
    (row_there c.rows.rest.now (string_bytes c.in-Row.said) c.in-Row.size next).0

pub rows-preserved : goal.rows-preserved
rows-preserved g c =
    let next = subst (λ n. IsNext n c.rows.rest.now) c.in-Row.is c.in_ok-said.ensures in
    let pushed = c.in_ok-push_str-in-Row.ensures.bytes ∙ ap (λ t. string_bytes c.rows.pending ++ t) c.as_str.ensures.value in
    let told = next_row _ _ _ _ _ (string_bytes c.rows.pending) (string_bytes c.push_str.new.self) (string_bytes c.in-Row.said) c.in-Row.size c.rows.invariant.told next pushed in
    record {
      later = omega (arith, c.rows.invariant.later, c.in_ok-hand_on-in-Row.ensures.cause.later);
      told = subst (λ r. SoFar c.args.bytes.now r (c.rows.number + 1) (g.K.Sink.taken c.args.out.now) (g.K.Sink.taken c.hand_on.new.sink) (string_bytes c.hand_on.new.pending)) (sym c.behind-rest.ensures)
          (moved _ _ _ _ _ _ _ _ told c.in_ok-hand_on-in-Row.ensures.moved);
    }

pub returns-in_err-bad_line-in-Bad-clause-err : goal.returns-in_err-bad_line-in-Bad-clause-err
returns-in_err-bad_line-in-Bad-clause-err g c = OnErr-of_fact _ (some_now _ _ _ _ _ _ c.rows.invariant.told)

pub returns-in_err-push_str-in-Bad-clause-err : goal.returns-in_err-push_str-in-Bad-clause-err
returns-in_err-push_str-in-Bad-clause-err g c = OnErr-of_fact _ (some_now _ _ _ _ _ _ c.rows.invariant.told)

pub returns-in_err-write_all-in-Bad-clause-err : goal.returns-in_err-write_all-in-Bad-clause-err
returns-in_err-write_all-in-Bad-clause-err g c =
    let next = subst (λ n. IsNext n c.rows.rest.now) c.in-Bad.is c.in_ok-said.ensures in
    let pushed = c.as_bytes.ensures.value ∙ c.in_ok-push_str-in-Bad.ensures.bytes ∙ ap (λ t. string_bytes c.rows.pending ++ t) (c.as_str-in-Bad.ensures.value ∙ c.in_ok-bad_line-in-Bad.ensures) in
    OnErr-of_fact _ (bad_some _ _ _ _ _ _ _ _ c.rows.invariant.told pushed c.in_err-write_all-in-Bad.ensures.err next)

pub returns-in-Bad-clause-ok : goal.returns-in-Bad-clause-ok
returns-in-Bad-clause-ok g c =
    let next = subst (λ n. IsNext n c.rows.rest.now) c.in-Bad.is c.in_ok-said.ensures in
    let pushed = c.as_bytes.ensures.value ∙ c.in_ok-push_str-in-Bad.ensures.bytes ∙ ap (λ t. string_bytes c.rows.pending ++ t) (c.as_str-in-Bad.ensures.value ∙ c.in_ok-bad_line-in-Bad.ensures) in
    bad_written _ _ _ _ _ _ _ _ c.rows.invariant.told pushed c.in_ok-write_all-in-Bad.ensures.ok next

pub returns-in_err-write_all-in-Nothing-clause-err : goal.returns-in_err-write_all-in-Nothing-clause-err
returns-in_err-write_all-in-Nothing-clause-err g c =
    let some = subst (TakesSome (g.K.Sink.taken c.rows.out) (g.K.Sink.taken c.write_all-in-Nothing.new.sink)) c.as_bytes-in-Nothing.ensures.value c.in_err-write_all-in-Nothing.ensures.err in
    OnErr-of_fact _ (some_more _ _ _ _ _ _ _ c.rows.invariant.told some)

pub returns-in_err-write_all-in-Long-clause-err : goal.returns-in_err-write_all-in-Long-clause-err
returns-in_err-write_all-in-Long-clause-err g c =
    let some = subst (TakesSome (g.K.Sink.taken c.rows.out) (g.K.Sink.taken c.write_all-in-Long.new.sink)) c.as_bytes-in-Long.ensures.value c.in_err-write_all-in-Long.ensures.err in
    OnErr-of_fact _ (some_more _ _ _ _ _ _ _ c.rows.invariant.told some)
