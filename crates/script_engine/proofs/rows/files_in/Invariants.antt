use Rattle.std.proofs.Common.{◌≡◌, ◌+◌, ◌≤◌, drop}
use Rattle.script_engine.specs.Trees.{files_in}
use Rattle.script_engine.proofs.rows.files_in.Given as goal

-- the files so far, and those to come
abbrev pub invariant-loop-row : goal.invariant-loop-row
invariant-loop-row l = (l.count + files_in (drop l.row-index l.rows) ≡ files_in l.rows) × (l.count ≤ l.row-index)
