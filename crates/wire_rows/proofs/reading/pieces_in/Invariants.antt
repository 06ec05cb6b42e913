use Rattle.std.proofs.Common.{◌≡◌, Some, eqb, length, take}
use Rattle.std.specs.List.{slice_split}
use Rattle.wire_rows.specs.Reading.{all_bytes}
use Rattle.wire_rows.proofs.reading.pieces_in.Given as goal

-- the words so far spell the pieces so far
abbrev pub invariant-loop-word : goal.invariant-loop-word
invariant-loop-word l = record {
  can : (goal.iterator-loop-word).can_next l.word-iterator;
  finite : (goal.iterator-loop-word).is_finite l.word-iterator;
  so_far : all_bytes (take (length l.yielded) (slice_split (λ b. eqb b 32) l.fn.words)) ≡ Some l.pieces.items;
}
