use Rattle.std.proofs.Common.{map}
use Rattle.std.specs.Prelude.{string_bytes}
use Rattle.dfsr.specs.Answers.{WritesBig, WritesSomeOfBig}
use Rattle.dfsr.specs.Words.{AreBigWords}
use Rattle.dfsr.proofs.Asked.{of_asked}
use Rattle.dfsr.proofs.script.script_main.Goals as goal

pub returns-in-Some-Big-clause-big_done : goal.returns-in-Some-Big-clause-big_done
returns-in-Some-Big-clause-big_done g c seed count also done =
    let asked : AreBigWords (map string_bytes c.args.words.now) c.in-Some-Big.seed c.in-Some-Big.count = rw c.in-Some-Big.field-0-is at c.in-Some-Big.ensures in
    of_asked (λ s n. WritesBig s n (g.K.Sink.taken c.args.out.now) (g.K.Sink.taken c.run_big.new.out)) (map string_bytes c.args.words.now) c.in-Some-Big.seed c.in-Some-Big.count seed count asked also
    (c.run_big.ensures.done done)

pub returns-in-Some-Big-clause-big_cut_short : goal.returns-in-Some-Big-clause-big_cut_short
returns-in-Some-Big-clause-big_cut_short g c seed count also short =
    let asked : AreBigWords (map string_bytes c.args.words.now) c.in-Some-Big.seed c.in-Some-Big.count = rw c.in-Some-Big.field-0-is at c.in-Some-Big.ensures in
    of_asked (λ s n. WritesSomeOfBig s n (g.K.Sink.taken c.args.out.now) (g.K.Sink.taken c.run_big.new.out)) (map string_bytes c.args.words.now) c.in-Some-Big.seed c.in-Some-Big.count seed count asked also
    (c.run_big.ensures.cut_short short)
