-- Lines that lead an engine on, one after the other.
use Rattle.std.proofs.Common.{◌≡◌, ◌+◌, ℕ, List, [], ◌∷◌, ◌++◌, take, refl, sym, subst}
use Rattle.script_lang.specs.declared.line.Line.{Line}
use Rattle.script_engine.specs.declared.engine.Engine.{Engine}
use Rattle.script_engine.specs.Scene.{Scene, fresh_scene}
use Rattle.script_engine.specs.Engines.{HasScene, Stands}
use Rattle.script_engine.specs.Text.{Does, Run}
use Rattle.script_engine.proofs.Runs.{run_then_does, run_then_run}
use Rattle.dfsr.specs.Answers.{PrintsLast}
use Rattle.dfsr.specs.Leading.{Leads, LeadsOn}

-- no lines lead nowhere
pub none_lead : (e : Engine) → Leads e [] [] e
none_lead e s stands = (s, (refl, refl), stands)

pub none_lead_on : (e : Engine) → LeadsOn e [] e
none_lead_on e s stands = ([], s, (refl, refl), stands)

-- what an engine is led to stands for a scene, as it did
pub has_scene : (a b : Engine) (lines : List Line) (text : List ℕ) → Leads a lines text b → HasScene a → HasScene b
has_scene a b lines text leads (s, stands) = let (mid, run, after) = leads s stands in (mid, after)

pub has_scene_on : (a b : Engine) (lines : List Line) → LeadsOn a lines b → HasScene a → HasScene b
has_scene_on a b lines leads (s, stands) = let (said, mid, run, after) = leads s stands in (mid, after)

-- one line more
pub line_more : (a b c : Engine) (lines : List Line) (i : ℕ) (line : Line) (said text : List ℕ) → take (i + 1) lines ≡ take i lines ++ line ∷ [] → Leads a (take i lines) said b
    → ((s : Scene) → Stands b s → (new : Scene) × Does s line text new × Stands c new) → Leads a (take (i + 1) lines) (said ++ text) c
line_more a b c lines i line said text more leads does s stands =
    let (mid, run, between) = leads s stands in
    let (new, did, after) = does mid between in
    (new, subst (λ ls. Run s ls (said ++ text) new) (sym more) (run_then_does s (take i lines) said mid line text new run did), after)

-- further lines
pub lead_further : (a b c : Engine) (lines more : List Line) (text : List ℕ) → LeadsOn a lines b → Leads b more text c → LeadsOn a (lines ++ more) c
lead_further a b c lines more text on leads s stands =
    let (said, mid, run, between) = on s stands in
    let (new, further, after) = leads mid between in
    (said ++ text, new, run_then_run s lines more said mid text new run further, after)

pub lead_on : (a b c : Engine) (lines more : List Line) → LeadsOn a lines b → LeadsOn b more c → LeadsOn a (lines ++ more) c
lead_on a b c lines more on leads s stands =
    let (said, mid, run, between) = on s stands in
    let (text, new, further, after) = leads mid between in
    (said ++ text, new, run_then_run s lines more said mid text new run further, after)

-- so they lead on, whatever they print
pub leads_on : (a b : Engine) (lines : List Line) (text : List ℕ) → Leads a lines text b → LeadsOn a lines b
leads_on a b lines text leads s stands = let (mid, run, after) = leads s stands in (text, mid, run, after)

-- what the last lines print, from the first scene on
pub last_printed : (a b c : Engine) (before last : List Line) (text : List ℕ) → Stands a fresh_scene → LeadsOn a before b → Leads b last text c → PrintsLast before last text
last_printed a b c before last text stands on leads =
    let (said, mid, run, between) = on fresh_scene stands in
    let (new, further, after) = leads mid between in
    (said, mid, new, run, further)
