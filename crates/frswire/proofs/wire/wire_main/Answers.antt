use Rattle.std.proofs.Common.{◌≡◌, inr, subst}
use Rattle.std.specs.Prelude.{◌⊎◌}
use Rattle.frs_io.proofs.Told.{at_known}
use Rattle.frswire.specs.Rows.{WritesSome}
use Rattle.frswire.proofs.wire.wire_main.Goals as goal

pub returns-in-Err-Failed-write_rows-clause-cut_short : goal.returns-in-Err-Failed-write_rows-clause-cut_short
returns-in-Err-Failed-write_rows-clause-cut_short g c = λ _.
    let old = g.K.Sink.taken c.args.out.now in
    let new = g.K.Sink.taken c.write_rows.new.out in
    at_known _ _ c.in-Ok.bytes.items (λ bytes. WritesSome bytes old new) c.in-Ok.ensures.all c.in-Ok.ensures.end
    (subst (λ bytes. WritesSome bytes old new) c.deref.ensures.value c.in-Err-Failed-write_rows.ensures.err)

pub returns-clause-short_of_memory : goal.returns-clause-short_of_memory
returns-clause-short_of_memory g c = λ _.
    let old = g.K.Sink.taken c.args.out.now in
    let new = g.K.Sink.taken c.write_rows.new.out in
    at_known _ _ c.in-Ok.bytes.items (λ bytes. (new ≡ old) ⊎ WritesSome bytes old new) c.in-Ok.ensures.all c.in-Ok.ensures.end
    (inr (subst (λ bytes. WritesSome bytes old new) c.deref.ensures.value c.in-Err-Memory-write_rows.ensures.err))
