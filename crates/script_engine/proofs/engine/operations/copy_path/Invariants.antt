use Rattle.std.proofs.Common.{◌≡◌, take}
use Rattle.script_engine.proofs.engine.operations.copy_path.Given as goal

-- the first of the names were copied
abbrev pub invariant-loop-name : goal.invariant-loop-name
invariant-loop-name l = l.copy.items ≡ take l.name-index l.path
