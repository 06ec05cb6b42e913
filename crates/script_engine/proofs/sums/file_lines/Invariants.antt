use Rattle.std.proofs.Common.{◌≡◌, take}
use Rattle.std.specs.Prelude.{flat_map, string_bytes}
use Rattle.script_engine.specs.Trees.{files_of, sum_text}
use Rattle.script_engine.proofs.sums.file_lines.Given as goal

-- the lines of the files so far
abbrev pub invariant-loop-row : goal.invariant-loop-row
invariant-loop-row l = string_bytes l.text ≡ flat_map sum_text (files_of (take l.row-index l.rows))
