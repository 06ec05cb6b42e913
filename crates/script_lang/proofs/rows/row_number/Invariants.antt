use Rattle.std.proofs.Common.{◌≡◌, ◌≤◌, length, take}
use Rattle.std.specs.Prelude.{count_by}
use Rattle.script_lang.specs.Script.{rows, says_something}
use Rattle.script_lang.proofs.rows.row_number.Given as goal

-- so many rows so far say something
abbrev pub invariant-loop-row : goal.invariant-loop-row
invariant-loop-row l = record {
  can : (goal.iterator-loop-row).can_next l.row-iterator;
  finite : (goal.iterator-loop-row).is_finite l.row-iterator;
  place : l.number ≡ length l.yielded;
  count : l.passed ≡ count_by says_something (take (length l.yielded) (rows l.fn.text));
  early : l.passed ≤ l.index;
}
