use Rattle.std.proofs.Common.{subst, refl}
use Rattle.std.specs.Prelude.{string_bytes}
use Rattle.std.proofs.lemmas.Result.{on_err_weaker, on_ok_weaker}
use Rattle.frs_io.specs.Told.{Takes, TakesSome}
use Rattle.frs_io.proofs.Outcomes.{OnErr-of_fact}
use Rattle.frs_io.proofs.Told.{TakesSome-none}
use Rattle.dfsr.specs.Answers.{WritesSomeOfBig}
use Rattle.dfsr.proofs.Behind.{big_prints}
use Rattle.dfsr.proofs.big.write_big.Goals as goal

pub returns-in_err-text-clause-err : goal.returns-in_err-text-clause-err
returns-in_err-text-clause-err g c =
    let (text, is) = big_prints c.args.seed c.args.count c.requires in
    let taken = g.K.Sink.taken c.args.out.now in
    let some : WritesSomeOfBig c.args.seed c.args.count taken taken = (text, is, TakesSome-none taken taken text refl) in
    OnErr-of_fact _ some

pub returns-clause-ok : goal.returns-clause-ok
returns-clause-ok g c =
    let text = string_bytes c.in_ok-text.text in
    on_ok_weaker c.write_all.result (λ taken. (text, c.in_ok-text.ensures, subst (Takes (g.K.Sink.taken c.args.out.now) (g.K.Sink.taken c.write_all.new.sink)) c.as_bytes.ensures.value taken)) c.write_all.ensures.ok

pub returns-clause-err : goal.returns-clause-err
returns-clause-err g c =
    let text = string_bytes c.in_ok-text.text in
    on_err_weaker c.write_all.result (λ some. (text, c.in_ok-text.ensures, subst (TakesSome (g.K.Sink.taken c.args.out.now) (g.K.Sink.taken c.write_all.new.sink)) c.as_bytes.ensures.value some)) c.write_all.ensures.err
