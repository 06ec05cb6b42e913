-- What the last lines print of the script that a seed makes.
use Rattle.std.proofs.Common.{◌≡◌, [], ◌∷◌, ◌++◌, refl, sym, ap, ◌∙◌, subst, arith}
use Rattle.std.specs.Prelude.{decimal, codes}
use Rattle.std.proofs.lemmas.Fmt.{decimal_digit, decimal_step}
use Rattle.std.proofs.lemmas.List.Elements.{All-append}
use Rattle.script_lang.specs.Grammar.{IsLine}
use Rattle.script_lang.specs.declared.line.Line.TheVariants.{Change, Consume, Remove}
use Rattle.script_engine.specs.Scene.{fresh_scene}
use Rattle.script_engine.specs.Text.{Run}
use Rattle.script_engine.proofs.OneText.{run_one}
use Rattle.script_engine.proofs.Runs.{runs_on}
use Rattle.script_engine.proofs.Scenes.{fresh_scene_sound, run_keeps}
use Rattle.dfsr.specs.Big.{big_lines, counts, groups}
use Rattle.dfsr.specs.Laws.{BigLinesAreLines, BigTextsAreOne, EveryBigPrints, GroupsAreDrawn}
use Rattle.dfsr.proofs.Generated.{counts_valid, lines_valid}

pub all_are_lines : BigLinesAreLines
all_are_lines seed count few = All-append IsLine (big_lines seed count) counts (lines_valid seed count (omega arith)) counts_valid

pub big_prints : EveryBigPrints
big_prints seed count few =
    let valid = lines_valid seed count (omega arith) in
    let (said, mid, before) = runs_on fresh_scene (big_lines seed count) fresh_scene_sound valid in
    let (text, new, last) = runs_on mid counts (run_keeps fresh_scene (big_lines seed count) said mid fresh_scene_sound valid before) counts_valid in
    (text, (said, mid, new, before, last))

pub big_is_one : BigTextsAreOne
big_is_one seed count a b few (said, mid, new, before, last) (said', mid', new', before', last') =
    let valid = lines_valid seed count (omega arith) in
    let same = run_one fresh_scene (big_lines seed count) said said' mid mid' fresh_scene_sound valid before before' in
    (run_one mid counts a b new new' (run_keeps fresh_scene (big_lines seed count) said mid fresh_scene_sound valid before) counts_valid last
    (subst (λ s. Run s counts b new') (sym same.1) last')).0

-- ---- some groups

ninety : decimal 90 ≡ codes "90"
ninety = decimal_step 90 (omega arith) (omega arith) ∙ ap (λ d. d ++ 48 ∷ []) (decimal_digit 9 (omega arith))

thirty_four : decimal 34 ≡ codes "34"
thirty_four = decimal_step 34 (omega arith) (omega arith) ∙ ap (λ d. d ++ 52 ∷ []) (decimal_digit 3 (omega arith))

pub some_groups : GroupsAreDrawn
some_groups = record {
  changes = ap (λ d. Change (codes "a") ((codes "f" ++ d) ∷ []) 1 ∷ []) ninety;
  pulls = refl;
  removes = ap (λ d. groups 0 1 ++ Remove (codes "b") ((codes "f" ++ d) ∷ []) ∷ Consume (codes "b") 2 ∷ []) thirty_four;
}
