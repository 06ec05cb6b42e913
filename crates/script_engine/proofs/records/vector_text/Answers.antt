use Rattle.std.proofs.Common.{◌≡◌, ◌<◌, ◌≤◌, ◌∙◌, List, [], ◌∷◌, ◌++◌, ap, arith, length, sym, take}
use Rattle.std.specs.Prelude.{codes, flat_map}
use Rattle.std.proofs.lemmas.Bool.Decides.{nat_tests}
use Rattle.std.proofs.lemmas.List.{take_all}
use Rattle.version_vector.specs.declared.interval.Interval.{Interval}
use Rattle.script_engine.specs.Printed.{interval_word}
use Rattle.script_engine.specs.Text.{vector_text}
use Rattle.script_engine.specs.declared.names.MemberName.{MemberName}
use Rattle.script_engine.proofs.Texts.{join_map}
use Rattle.script_engine.proofs.records.vector_text.Goals as goal

-- the intervals, each behind a blank, are the words of a vector that isn't empty
parted : (names : List MemberName) (intervals : List Interval) → 0 < length intervals
    → (codes "vector" ++ flat_map (λ i. 32 ∷ interval_word names i) intervals) ++ 10 ∷ [] ≡ vector_text names intervals
parted names [] some = absurd (omega arith)
parted names (i ∷ is) some = ap (λ l. l ++ 10 ∷ []) (sym (join_map 32 (interval_word names) (codes "vector") (i ∷ is)))

pub returns : goal.returns
returns c =
    let names = c.args.names.now in
    let is = c.args.intervals.now in
    let some : 0 < length is = grind (arith, nat_tests) in
    let past : length is ≤ c.loop-interval.interval-index = omega arith in
    let all : take c.loop-interval.interval-index is ≡ is = take_all _ _ past in
    c.in_ok-push_str-3.ensures.bytes
    ∙ ap (λ l. l ++ 10 ∷ []) (c.loop-interval.invariant ∙ ap (λ l. codes "vector" ++ flat_map (λ i. 32 ∷ interval_word names i) l) all)
    ∙ parted names is some
