use Rattle.std.proofs.Common.{◌≡◌, ◌++◌, ◌∷◌, take}
use Rattle.std.specs.Prelude.{flat_map, string_bytes}
use Rattle.script_engine.specs.Printed.{name_word}
use Rattle.script_engine.proofs.tree.path_word.Given as goal

-- behind the first name those so far, each behind a `/`
abbrev pub invariant-loop-name : goal.invariant-loop-name
invariant-loop-name l = string_bytes l.text ≡ string_bytes l.initial.text ++ flat_map (λ name. 47 ∷ name_word name.now) (take l.name-index l.rest)
