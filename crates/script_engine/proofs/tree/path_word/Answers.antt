use Rattle.std.proofs.Common.{◌≡◌, ◌≤◌, ◌∙◌, ◌∷◌, ◌++◌, map, length, sym, take, ap, arith}
use Rattle.std.proofs.lemmas.List.{take_all}
use Rattle.std.proofs.lemmas.Simd.{map-map}
use Rattle.std.specs.Prelude.{flat_map}
use Rattle.std.specs.List.{join_with_byte}
use Rattle.script_engine.specs.Printed.{name_word}
use Rattle.script_engine.specs.Trees.{path_word}
use Rattle.script_engine.proofs.Texts.{join_map}
use Rattle.script_engine.proofs.tree.path_word.Goals as goal

pub returns : goal.returns
returns c =
    let first = c.in-Some.first.now in
    let rest = c.in-Some.rest.now in
    let whole : c.args.path.now ≡ first ∷ rest = c.in-Some.ensures.cases.0 in
    let past : length rest ≤ c.loop-name.name-index = omega arith in
    let all : take c.loop-name.name-index rest ≡ rest = take_all _ _ past in
    c.loop-name.invariant
    ∙ ap (λ l. l ++ flat_map (λ name. 47 ∷ name_word name.now) (take c.loop-name.name-index rest)) c.in_ok-text.ensures
    ∙ ap (λ l. name_word first.now ++ flat_map (λ name. 47 ∷ name_word name.now) l) all
    ∙ sym (join_map 47 (λ name. name_word name.now) (name_word first.now) rest)
    ∙ ap (λ l. join_with_byte 47 (name_word first.now ∷ l)) (sym (map-map name_word (λ name. name.now) rest))
    ∙ ap (λ l. path_word (map (λ name. name.now) l)) (sym whole)
