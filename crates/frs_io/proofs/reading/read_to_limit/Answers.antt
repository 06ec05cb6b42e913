use Rattle.std.proofs.Common.{take, ◌++◌}
use Rattle.frs_io.specs.Told.{GivesSome}
use Rattle.frs_io.proofs.Told.{Gives-trans, GivesSome-of_Gives}
use Rattle.frs_io.proofs.Outcomes.{OnErr-of_fact}
use Rattle.frs_io.proofs.reading.read_to_limit.Goals as goal

-- the source gave what stands in the vector, and the piece for which no memory was left
pub returns-in_err-extend_from_slice-clause-err : goal.returns-in_err-extend_from_slice-clause-err
returns-in_err-extend_from_slice-clause-err g c =
    let bytes = c.loop-source.bytes.items in
    let piece = take c.in_ok-count.count c.read.new.buf in
    let some : GivesSome (g.S.Source.left c.args.source.now) (g.S.Source.left c.read.new.self) =
    GivesSome-of_Gives _ _ (bytes ++ piece) (Gives-trans _ _ _ bytes piece c.loop-source.invariant.given c.in_ok-count.ensures.given) in
    OnErr-of_fact _ some
