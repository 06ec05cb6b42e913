use Rattle.std.proofs.Common.{◌≡◌, ◌++◌, take, string_bytes}
use Rattle.script_lang.proofs.printing.push_component.Given as goal

-- the characters so far stand behind the text
abbrev pub invariant-loop-unit : goal.invariant-loop-unit
invariant-loop-unit l = string_bytes l.text ≡ string_bytes l.fn.text ++ take l.unit-index l.unit-items
