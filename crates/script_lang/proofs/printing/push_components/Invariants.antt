use Rattle.std.proofs.Common.{◌≡◌, ◌++◌, ◌∷◌, take, string_bytes}
use Rattle.std.specs.List.{flat_map}
use Rattle.script_lang.proofs.printing.push_components.Given as goal

-- the components so far stand behind the text
abbrev pub invariant-loop-name : goal.invariant-loop-name
invariant-loop-name l = string_bytes l.text ≡ string_bytes l.fn.text ++ flat_map (λ name. 47 ∷ name) (take l.name-index l.names)
