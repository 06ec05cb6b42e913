use Rattle.std.proofs.Common.{inr, subst}
use Rattle.frs_io.proofs.Told.{at_known}
use Rattle.dfsr.specs.Answers.{WritesSome}
use Rattle.script_lang.specs.Refusals.{IsRefused}
use Rattle.script_lang.specs.Script.{IsFirstBad}
use Rattle.dfsr.proofs.Writing.{bad_some}
use Rattle.dfsr.proofs.script.run_script.Goals as goal

pub returns-in-Err-Failed-write_bad_line-clause-cut_short : goal.returns-in-Err-Failed-write_bad_line-clause-cut_short
returns-in-Err-Failed-write_bad_line-clause-cut_short g c = λ _.
    let bytes = c.in-Ok.bytes.items in
    let number = c.in-Err-LineBad.number in
    let first : IsFirstBad c.deref.result.now number = subst (λ e. IsRefused e c.deref.result.now) c.in-Err-LineBad.field-0-is c.in-Err-LineBad.ensures.refused in
    at_known _ _ bytes (λ bytes. WritesSome bytes (g.K.Sink.taken c.args.out.now) (g.K.Sink.taken c.write_bad_line.new.out)) c.in-Ok.ensures.all c.in-Ok.ensures.end
    (bad_some bytes number _ _ c.in-Ok.ensures.within (subst (λ b. IsFirstBad b number) c.deref.ensures.value first) c.in-Err-Failed-write_bad_line.ensures.err)

pub returns-in-Err-Memory-write_bad_line-clause-short_of_memory : goal.returns-in-Err-Memory-write_bad_line-clause-short_of_memory
returns-in-Err-Memory-write_bad_line-clause-short_of_memory g c = λ _.
    let bytes = c.in-Ok.bytes.items in
    let number = c.in-Err-LineBad.number in
    let first : IsFirstBad c.deref.result.now number = subst (λ e. IsRefused e c.deref.result.now) c.in-Err-LineBad.field-0-is c.in-Err-LineBad.ensures.refused in
    at_known _ _ bytes _ c.in-Ok.ensures.all c.in-Ok.ensures.end
    (inr (bad_some bytes number _ _ c.in-Ok.ensures.within (subst (λ b. IsFirstBad b number) c.deref.ensures.value first) c.in-Err-Memory-write_bad_line.ensures.err))
