use Rattle.std.proofs.Common.{◌≡◌, ◌<◌, drop}
use Rattle.wire_rows.specs.Reading.{value_in}
use Rattle.wire_rows.proofs.number.value_in.Given as goal

-- reading what is left behind the digits so far is reading all
abbrev pub invariant-loop-digit : goal.invariant-loop-digit
invariant-loop-digit l = record {
  small : l.value < 65536;
  same : value_in 0 l.word ≡ value_in l.value (drop l.digit-index l.word);
}
