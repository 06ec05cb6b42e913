use Rattle.std.proofs.Common.{◌≡◌}
use Rattle.script_engine.specs.Text.{filled}
use Rattle.script_engine.proofs.engine.operations.pattern.Given as goal

-- the bytes so far
abbrev pub invariant-loop-i : goal.invariant-loop-i
invariant-loop-i l = l.bytes.items ≡ filled l.i
