use Rattle.std.proofs.Common.{◌≡◌, ◌≤◌, ℕ, List, ◌++◌, length}
use Rattle.frs_io.specs.Told.{Takes}
use Rattle.frs_io.proofs.writing.write_all.Given as goal

-- what is gone from `rest` was taken
abbrev pub invariant-loop-rest : goal.invariant-loop-rest
invariant-loop-rest g l = record {
  later : g.K.Sink.faults l.fn.sink ≤ g.K.Sink.faults l.sink;
  moved : (done : List ℕ) × (l.fn.bytes ≡ done ++ l.rest) × Takes (g.K.Sink.taken l.fn.sink) (g.K.Sink.taken l.sink) done;
}

abbrev pub decreases-loop-rest : goal.decreases-loop-rest
decreases-loop-rest g l = length l.rest
