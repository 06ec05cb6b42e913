use Rattle.std.proofs.Common.{◌≡◌, take}
use Rattle.script_lang.proofs.path.name_of.Given as goal

-- the units so far are the component's bytes
abbrev pub invariant-loop-byte : goal.invariant-loop-byte
invariant-loop-byte l = l.units.items ≡ take l.byte-index l.part
