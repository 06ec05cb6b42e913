use Rattle.std.proofs.Common.{take}
use Rattle.sha1.specs.Sha1.{Holds}
use Rattle.slot_probe.specs.Found.{spelled}
use Rattle.slot_probe.proofs.probe.sum_of.Given as goal

-- the hasher holds the strings so far
abbrev pub invariant-loop-string : goal.invariant-loop-string
invariant-loop-string l = Holds l.hasher (spelled (take l.string-index l.strings))
