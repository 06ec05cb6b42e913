use Rattle.std.proofs.Common.{◌≡◌, take}
use Rattle.std.specs.Prelude.{flat_map, string_bytes}
use Rattle.script_engine.specs.Trees.{row_text}
use Rattle.script_engine.proofs.tree.rows_text.Given as goal

-- the lines so far
abbrev pub invariant-loop-row : goal.invariant-loop-row
invariant-loop-row l = string_bytes l.text ≡ flat_map row_text (take l.row-index l.rows)
