-- Runs of lines, one after the other, and that each goes on.
use Rattle.std.proofs.Common.{◌++◌, ℕ, zero, suc, List, [], ◌∷◌, take, refl, sym, ap, ◌∙◌, subst, append-nil, append_assoc, All}
use Rattle.std.proofs.lemmas.List.Elements.{All-head, All-tail}
use Rattle.script_lang.specs.Grammar.{IsLine}
use Rattle.script_lang.specs.declared.line.Line.{Line}
use Rattle.script_engine.specs.Scene.{Scene, fresh_scene}
use Rattle.script_engine.specs.Sound.{IsSoundScene}
use Rattle.script_engine.specs.Text.{Does, Run}
use Rattle.script_engine.specs.Scripts.{BeginningsGoOn, EveryScriptPrints}
use Rattle.script_engine.proofs.Prints.{line_prints}
use Rattle.script_engine.proofs.Scenes.{fresh_scene_sound, line_keeps}

-- a run, and one line more
pub run_then_does : (s : Scene) (lines : List Line) (text : List ℕ) (mid : Scene) (line : Line) (more : List ℕ) (new : Scene)
    → Run s lines text mid → Does mid line more new → Run s (lines ++ line ∷ []) (text ++ more) new
run_then_does s [] text mid line more new (said, is) does =
    (more, new, [], subst (λ v. Does v line more new) is does, (refl, refl), ap (λ t. t ++ more) said ∙ sym (append-nil more))
run_then_does s (l ∷ lines) text mid line more new (first, between, rest, does_first, run, said) does =
    (first, between, rest ++ more, does_first, run_then_does between lines rest mid line more new run does, ap (λ t. t ++ more) said ∙ append_assoc first rest more)

-- a run, and further lines
pub run_then_run : (s : Scene) (lines more : List Line) (text : List ℕ) (mid : Scene) (further : List ℕ) (new : Scene)
    → Run s lines text mid → Run mid more further new → Run s (lines ++ more) (text ++ further) new
run_then_run s [] more text mid further new (said, is) run = subst (λ v. Run v more (text ++ further) new) is (subst (λ t. Run mid more t new) (sym (ap (λ t. t ++ further) said)) run)
run_then_run s (l ∷ lines) more text mid further new (first, between, rest, does, run, said) run_more =
    (first, between, rest ++ further, does, run_then_run between lines more rest mid further new run run_more, ap (λ t. t ++ further) said ∙ append_assoc first rest further)

-- lines in form print something from a sound scene on
pub runs_on : (s : Scene) (lines : List Line) → IsSoundScene s → All IsLine lines → (text : List ℕ) × (new : Scene) × Run s lines text new
runs_on s [] h all = ([], s, (refl, refl))
runs_on s (line ∷ rest) h all =
    let form = All-head IsLine line rest all in
    let (first, mid, does) = line_prints s line h form in
    let (more, new, run) = runs_on mid rest (line_keeps s line first mid h form does) (All-tail IsLine line rest all) in
    (first ++ more, new, (first, mid, more, does, run, refl))

-- so do the lines behind some first ones
first_lines : (n : ℕ) (s : Scene) (lines : List Line) (said : List ℕ) (mid : Scene) → IsSoundScene s → All IsLine lines → Run s (take n lines) said mid → (more : List ℕ) × (new : Scene) × Run s lines (said ++ more) new
first_lines zero s lines said mid h all (none, is) =
    let (text, new, run) = runs_on s lines h all in (text, new, subst (λ t. Run s lines (t ++ text) new) (sym none) run)
first_lines (suc n) s [] said mid h all (none, is) = ([], mid, (ap (λ t. t ++ []) none, is))
first_lines (suc n) s (line ∷ rest) said mid h all (first, between, behind, does, run, text) =
    let form = All-head IsLine line rest all in
    let (more, new, on) = first_lines n between rest behind mid (line_keeps s line first between h form does) (All-tail IsLine line rest all) run in
    (more, new, (first, between, behind ++ more, does, on, ap (λ t. t ++ more) text ∙ append_assoc first behind more))

pub every_script : EveryScriptPrints
every_script script all = let (text, new, run) = runs_on fresh_scene script fresh_scene_sound all in (text, (new, run))

pub beginnings_go_on : BeginningsGoOn
beginnings_go_on script n said all (mid, run) = let (more, new, on) = first_lines n fresh_scene script said mid fresh_scene_sound all run in (more, (new, on))
