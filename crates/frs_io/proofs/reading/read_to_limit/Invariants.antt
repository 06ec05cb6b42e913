use Rattle.std.proofs.Common.{◌≡◌, ◌≤◌, ◌+◌, ◌-◌, vec_len}
use Rattle.frs_io.specs.Told.{Gives}
use Rattle.frs_io.proofs.reading.read_to_limit.Given as goal

-- what the source gave is what was read
abbrev pub invariant-loop-source : goal.invariant-loop-source
invariant-loop-source g l = record {
  later : g.S.Source.faults l.fn.source ≤ g.S.Source.faults l.source;
  given : Gives (g.S.Source.left l.fn.source) (g.S.Source.left l.source) l.bytes.items;
  room : vec_len l.buffer ≡ 65536;
}

abbrev pub decreases-loop-source : goal.decreases-loop-source
decreases-loop-source g l = l.limit + 1 - vec_len l.bytes
