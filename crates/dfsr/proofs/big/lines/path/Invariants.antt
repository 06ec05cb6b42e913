use Rattle.std.proofs.Common.{◌≡◌, take}
use Rattle.dfsr.proofs.big.lines.path.Given as goal

-- the units so far are the first bytes of the text
abbrev pub invariant-loop-byte : goal.invariant-loop-byte
invariant-loop-byte l = l.units.items ≡ take l.byte-index l.byte-items
