use Rattle.std.proofs.Common.{◌≡◌, length}
use Rattle.name_tests.specs.Born.{AreBornInOrder}
use Rattle.name_tests.proofs.worlds.records_of.Given as goal

-- so many were born
abbrev pub invariant-loop-at : goal.invariant-loop-at
invariant-loop-at l = (length l.records.items ≡ l.at) × AreBornInOrder l.records.items
