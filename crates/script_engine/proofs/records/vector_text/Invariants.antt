use Rattle.std.proofs.Common.{◌≡◌, ◌++◌, ◌∷◌, take}
use Rattle.std.specs.Prelude.{codes, flat_map, string_bytes}
use Rattle.script_engine.specs.Printed.{interval_word}
use Rattle.script_engine.proofs.records.vector_text.Given as goal

-- the intervals so far, each behind a blank
abbrev pub invariant-loop-interval : goal.invariant-loop-interval
invariant-loop-interval l =
    string_bytes l.text ≡ codes "vector" ++ flat_map (λ i. 32 ∷ interval_word l.names i) (take l.interval-index l.intervals)
