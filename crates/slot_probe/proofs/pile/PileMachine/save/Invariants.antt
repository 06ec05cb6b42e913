use Rattle.std.proofs.Common.{◌≡◌, take}
use Rattle.slot_probe.proofs.pile.PileMachine.save.Given as goal

abbrev pub invariant-loop-string : goal.invariant-loop-string
invariant-loop-string l = l.saved.items ≡ take l.string-index l.string-items
