use Rattle.std.proofs.Common.{◌≡◌, length, take}
use Rattle.script_lang.specs.Script.{SpellLines, rows}
use Rattle.script_lang.proofs.parsing.parse_prefix.Given as goal

-- the rows so far spell the lines so far
abbrev pub invariant-loop-row : goal.invariant-loop-row
invariant-loop-row l = record {
  can : (goal.iterator-loop-row).can_next l.row-iterator;
  finite : (goal.iterator-loop-row).is_finite l.row-iterator;
  count : l.number ≡ length l.yielded;
  so_far : SpellLines (take (length l.yielded) (rows l.fn.text)) l.lines.items;
}
