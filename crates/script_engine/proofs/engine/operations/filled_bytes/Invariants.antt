use Rattle.std.proofs.Common.{◌≡◌, ◌*◌}
use Rattle.script_engine.specs.Text.{filled}
use Rattle.script_engine.proofs.engine.operations.filled_bytes.Given as goal

-- the rounds so far
abbrev pub invariant-loop-round : goal.invariant-loop-round
invariant-loop-round l = l.bytes.items ≡ filled (251 * l._round)
