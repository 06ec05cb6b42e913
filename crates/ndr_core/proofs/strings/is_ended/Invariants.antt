use Rattle.std.proofs.Common.{◌≡◌, drop}
use Rattle.ndr_core.specs.Strings.{is_ended}
use Rattle.ndr_core.proofs.strings.is_ended.Given as goal

abbrev pub invariant-loop-at : goal.invariant-loop-at
invariant-loop-at l = is_ended (drop l.at l.units) ≡ is_ended l.units
