-- A line prints one text and leads to one scene.
use Rattle.std.proofs.Common.{◌≡◌, ◌<◌, ◌+◌, ◌^◌, ◌++◌, ℕ, List, [], ◌∷◌, length, refl, sym, ap, ◌∙◌, subst, Option, Some, None, MatchOption, Result, Ok, Err}
use Rattle.std.specs.Prelude.{MatchResult, codes, decimal, flat_map}
use Rattle.std.proofs.lemmas.List.Elements.{All-head, All-tail}
use Rattle.frs_base.specs.Identifiers.{database_of}
use Rattle.vol_state.specs.declared.command.VolCmd.{VolCmd}
use Rattle.vol_state.specs.declared.operation.LocalOp.{LocalOp}
use Rattle.vol_state.specs.declared.operation.LocalOp.TheVariants as op
use Rattle.vol_state.specs.declared.operation.Refused.{Refused}
use Rattle.vol_state.specs.Ways.{Resolves}
use Rattle.vol_state.proofs.Resolved.{resolves_to_one}
use Rattle.record_db.proofs.Lists.{lists_one}
use Rattle.script_lang.specs.Grammar.{IsLine}
use Rattle.script_lang.specs.declared.line.Line.{Line}
use Rattle.script_lang.specs.declared.line.Line.TheVariants as lines
use Rattle.world_model.specs.World.{World, IsRecordOf}
use Rattle.world_model.specs.Events.{Step, Local as LocalEvent}
use Rattle.world_model.proofs.Facts.{some_is}
use Rattle.script_engine.specs.Scene.{Scene, IsNamed, fresh_scene, in_world, members_of}
use Rattle.script_engine.specs.Sound.{IsSoundScene}
use Rattle.script_engine.specs.Printed.{printed, record_words, vector_words}
use Rattle.script_engine.specs.declared.refusal.Refusal.{Refusal}
use Rattle.script_engine.specs.declared.refusal.Refusal.TheVariants.{Local}
use Rattle.script_engine.specs.Refusals.{first_refusal}
use Rattle.script_engine.specs.declared.consumed.Consumed.{Consumed}
use Rattle.script_engine.specs.Consuming.{ConsumesAll}
use Rattle.script_engine.specs.Pulling.{Pulls}
use Rattle.script_engine.specs.Trees.{files_of, sums_text, tree_text}
use Rattle.script_engine.specs.Text.{Acts, Changes, Consumes, Counts, DrainsAll, InstallsNext, IsRefused, Operates, PrintsSums, PrintsTree, Run, Shows, count_text, filled, installed_text, last_text, left_by, text_unless, usn_text}
use Rattle.script_engine.specs.Scripts.{LinesPrintOneText, OneText, RunsPrintOneText}
use Rattle.script_engine.proofs.Drained.{drains_one}
use Rattle.script_engine.proofs.Gives.{scene_kept}
use Rattle.script_engine.proofs.Installed.{installs_one}
use Rattle.script_engine.proofs.Once.{consumes_all_one, next_by, next_one, pulls_one}
use Rattle.script_engine.proofs.Sorting.{one_tree}
use Rattle.script_engine.proofs.Passing.{passes_local}
use Rattle.script_engine.proofs.Scenes.{fresh_scene_sound, line_keeps}
use Rattle.script_engine.proofs.Vectors.{vector_one}

-- one text and one scene
abbrev Alike : List ℕ → List ℕ → Scene → Scene → Type 0
Alike a b m n = (a ≡ b) × (m ≡ n)

-- a name is of one member
named_one : (s : Scene) (name : List ℕ) (d e : ℕ) → IsNamed s name d → IsNamed s name e → d ≡ e
named_one s name d e (k, at, is) (k', at', is') = is ∙ ap (λ x. database_of (x + 1)) (some_is k k' (sym at ∙ at')) ∙ sym is'

unless_one : (why other : Option Refusal) (a b : List ℕ) → why ≡ other → (why ≡ None → a ≡ b) → text_unless why a ≡ text_unless other b
unless_one why other a b same told = by why told ∙ ap (λ x. text_unless x b) same
  where
    by : (why : Option Refusal) → (why ≡ None → a ≡ b) → text_unless why a ≡ text_unless why b
    by None told = told refl
    by (Some refused) told = refl

-- ---- local operations

-- an operation comes to one answer
answer_one : (s : Scene) (d : ℕ) (operation : LocalOp) (a b : Result VolCmd Refused) → IsSoundScene s → Resolves (s.world.at d).volume operation a → Resolves (s.world.at d).volume operation b → a ≡ b
answer_one s d operation a b h r q = let (v, l) = h.world.volumes d in resolves_to_one operation v (s.world.at d).volume a b l.valid l.stands r q

-- what an answer leads to
abbrev Done : Scene → ℕ → List ℕ → Scene → VolCmd → Type 0
Done s d text new cmd = (w : World) × Step s.world d (LocalEvent cmd) w × (text ≡ usn_text (s.world.at d).volume.next_usn) × (new ≡ in_world s w)

operates_one : (s : Scene) (d : ℕ) (operation : LocalOp) (a b : List ℕ) (m n : Scene) → IsSoundScene s → Operates s d operation a m → Operates s d operation b n → Alike a b m n
operates_one s d operation a b m n h (answer, r, acts) (answer', r', acts') =
    by answer acts (subst (λ x. MatchResult x (Done s d b n) (λ why. IsRefused s (Local why) b n)) (sym (answer_one s d operation answer answer' h r r')) acts')
  where
    by : (answer : Result VolCmd Refused) → MatchResult answer (Done s d a m) (λ why. IsRefused s (Local why) a m) → MatchResult answer (Done s d b n) (λ why. IsRefused s (Local why) b n) → Alike a b m n
    by (Ok cmd) (w, step, said, is) (w', step', said', is') = (said ∙ sym said', is ∙ ap (in_world s) (step.1 ∙ sym step'.1) ∙ sym is')
    by (Err why) (said, is) (said', is') = (said ∙ sym said', is ∙ sym is')

-- ---- consuming

consumes_one : (s : Scene) (name : List ℕ) (d moment : ℕ) (a b : List ℕ) (m n : Scene) → IsSoundScene s → Consumes s name d moment a m → Consumes s name d moment b n → Alike a b m n
consumes_one s name d moment a b m n h (done, why, w, next, said, is) (done', why', w', next', said', is') =
    let same = next_one s.world d moment done done' why why' w w' h.world.invariant.versions (next_by s.world d moment done why w next) (next_by s.world d moment done' why' w' next') in
    (said ∙ unless_one why why' (last_text name done) (last_text name done') same.refusal (λ none. ap (last_text name) same.done) ∙ sym said', is ∙ ap (in_world s) same.world ∙ sym is')

abbrev Changed : Scene → List ℕ → ℕ → ℕ → List ℕ → Scene → VolCmd → Type 0
Changed s name d moment text new cmd = (put : World) × (w : World) × (done : List Consumed) × (why : Option Refusal) × Step s.world d (LocalEvent cmd) put × ConsumesAll put d moment done why w
    × (text ≡ text_unless why (last_text name done)) × (new ≡ in_world s w)

changes_one : (s : Scene) (name : List ℕ) (d : ℕ) (operation : LocalOp) (moment : ℕ) (a b : List ℕ) (m n : Scene) → moment < 2 ^ 61 → IsSoundScene s → Changes s name d operation moment a m → Changes s name d operation moment b n
    → Alike a b m n
changes_one s name d operation moment a b m n early h (answer, r, acts) (answer', r', acts') =
    by answer acts (subst (λ x. MatchResult x (Changed s name d moment b n) (λ why. IsRefused s (Local why) b n)) (sym (answer_one s d operation answer answer' h r r')) acts')
  where
    by : (answer : Result VolCmd Refused) → MatchResult answer (Changed s name d moment a m) (λ why. IsRefused s (Local why) a m) → MatchResult answer (Changed s name d moment b n) (λ why. IsRefused s (Local why) b n)
        → Alike a b m n
    by (Ok cmd) (put, w, done, why, step, all, said, is) (put', w', done', why', step', all', said', is') =
        let p = passes_local s.world d cmd put h.world step in
        let same = consumes_all_one put d moment done done' why why' w w' early p.sound all (subst (λ z. ConsumesAll z d moment done' why' w') (step'.1 ∙ sym step.1) all') in
        (said ∙ unless_one why why' (last_text name done) (last_text name done') same.refusal (λ none. ap (last_text name) same.done) ∙ sym said', is ∙ ap (in_world s) same.world ∙ sym is')
    by (Err why) (said, is) (said', is') = (said ∙ sym said', is ∙ sym is')

-- ---- what is printed of a member

shows_one : (s : Scene) (d : ℕ) (a b : List ℕ) → Shows s d a → Shows s d b → a ≡ b
shows_one s d a b (vector, records, v, l, said) (vector', records', v', l', said') =
    let same = vector_one (s.world.at d).known vector vector' v v' in
    let list = lists_one (IsRecordOf s.world d) records records' l l' in
    said ∙ (λ i. printed (codes "vector" ∷ vector_words (members_of s) (same i)) ++ flat_map (λ u. printed (record_words (members_of s) u)) (list i)) ∙ sym said'

tree_one : (s : Scene) (d : ℕ) (a b : List ℕ) → PrintsTree s d a → PrintsTree s d b → a ≡ b
tree_one s d a b (rows, is, said) (rows', is', said') = said ∙ ap tree_text (one_tree (s.world.at d).volume rows rows' is is') ∙ sym said'

sums_one : (s : Scene) (d : ℕ) (a b : List ℕ) → PrintsSums s d a → PrintsSums s d b → a ≡ b
sums_one s d a b (rows, is, said) (rows', is', said') = said ∙ ap (λ rows. sums_text (files_of rows)) (one_tree (s.world.at d).volume rows rows' is is') ∙ sym said'

counts_one : (s : Scene) (d : ℕ) (a b : List ℕ) → Counts s d a → Counts s d b → a ≡ b
counts_one s d a b (vector, records, rows, v, l, is, said) (vector', records', rows', v', l', is', said') =
    let same = vector_one (s.world.at d).known vector vector' v v' in
    let list = lists_one (IsRecordOf s.world d) records records' l l' in
    let tree = one_tree (s.world.at d).volume rows rows' is is' in
    said ∙ (λ i. count_text (list i) (tree i) (same i)) ∙ sym said'

-- ---- the installer

installed_one : (s : Scene) (name : List ℕ) (d : ℕ) (a b : List ℕ) (m n : Scene) → IsSoundScene s → InstallsNext s name d a m → InstallsNext s name d b n → Alike a b m n
installed_one s name d a b m n h (outcome, w, installs, said, is) (outcome', w', installs', said', is') =
    let (same, world) = installs_one s d outcome outcome' w w' h installs installs' in
    (said ∙ ap (installed_text (members_of s) name) same ∙ sym said', is ∙ ap (in_world s) world ∙ sym is')

drained_one : (s : Scene) (d : ℕ) (a b : List ℕ) (m n : Scene) → IsSoundScene s → DrainsAll s d a m → DrainsAll s d b n → Alike a b m n
drained_one s d a b m n h (steps, why, w, drains, said, is) (steps', why', w', drains', said', is') =
    let (same, refusal, world) = drains_one s d steps steps' why why' w w' h drains drains' in
    (said ∙ (λ i. text_unless (refusal i) (printed (codes "drained" ∷ decimal (length (same i)) ∷ []))) ∙ sym said', is ∙ ap (in_world s) world ∙ sym is')

-- ---- lines

-- what a member does, by either of its databases
by_name : (s : Scene) (name : List ℕ) (P : ℕ → List ℕ → Scene → Type 0) (a b : List ℕ) (m n : Scene) → ((d : ℕ) → P d a m → P d b n → Alike a b m n)
    → ((d : ℕ) × IsNamed s name d × P d a m) → ((d : ℕ) × IsNamed s name d × P d b n) → Alike a b m n
by_name s name P a b m n one (d, at, p) (e, at', q) = one d p (subst (λ x. P x b n) (named_one s name e d at' at) q)

acts_one : (s : Scene) (line : Line) (a b : List ℕ) (m n : Scene) → IsSoundScene s → IsLine line → Acts s line a m → Acts s line b n → Alike a b m n
acts_one s (lines.Member name kind) a b m n h form (said, is) (said', is') = (said ∙ sym said', is ∙ sym is')
acts_one s (lines.Put name path bytes) a b m n h form p q = by_name s name (λ d. Operates s d (op.Put path bytes)) a b m n (λ d. operates_one s d (op.Put path bytes) a b m n h) p q
acts_one s (lines.Fill name path count) a b m n h form p q = by_name s name (λ d. Operates s d (op.Put path (filled count))) a b m n (λ d. operates_one s d (op.Put path (filled count)) a b m n h) p q
acts_one s (lines.Mkdir name path) a b m n h form p q = by_name s name (λ d. Operates s d (op.Mkdir path)) a b m n (λ d. operates_one s d (op.Mkdir path) a b m n h) p q
acts_one s (lines.Move name from to) a b m n h form p q = by_name s name (λ d. Operates s d (op.Move from to)) a b m n (λ d. operates_one s d (op.Move from to) a b m n h) p q
acts_one s (lines.Remove name path) a b m n h form p q = by_name s name (λ d. Operates s d (op.Remove path)) a b m n (λ d. operates_one s d (op.Remove path) a b m n h) p q
acts_one s (lines.Consume name moment) a b m n h form p q = by_name s name (λ d. Consumes s name d moment) a b m n (λ d. consumes_one s name d moment a b m n h) p q
acts_one s (lines.Change name path moment) a b m n h form p q = by_name s name (λ d. Changes s name d (op.Put path []) moment) a b m n (λ d. changes_one s name d (op.Put path []) moment a b m n form.2 h) p q
acts_one s (lines.Pull name other) a b m n h form (p, q, taken, why, at, from, pulls, said) (p', q', taken', why', at', from', pulls', said') =
    let same = pulls_one s p q taken taken' why why' m n (scene_kept s h) pulls
    (subst (λ x. Pulls s x q taken' why' n) (named_one s name p' p at' at) (subst (λ x. Pulls s p' x taken' why' n) (named_one s other q' q from' from) pulls')) in
    (said ∙ unless_one why why' _ _ same.refusal (λ none. ap (λ x. printed (codes "pulled" ∷ decimal x ∷ [])) (same.told none)) ∙ sym said', same.scene)
acts_one s (lines.Install name) a b m n h form p q = by_name s name (λ d. InstallsNext s name d) a b m n (λ d. installed_one s name d a b m n h) p q
acts_one s (lines.Drain name) a b m n h form p q = by_name s name (λ d. DrainsAll s d) a b m n (λ d. drained_one s d a b m n h) p q
acts_one s (lines.Show name) a b m n h form (d, at, shows, is) (d', at', shows', is') = (shows_one s d a b shows (subst (λ x. Shows s x b) (named_one s name d' d at' at) shows'), is ∙ sym is')
acts_one s (lines.Tree name) a b m n h form (d, at, shows, is) (d', at', shows', is') = (tree_one s d a b shows (subst (λ x. PrintsTree s x b) (named_one s name d' d at' at) shows'), is ∙ sym is')
acts_one s (lines.Sums name) a b m n h form (d, at, shows, is) (d', at', shows', is') = (sums_one s d a b shows (subst (λ x. PrintsSums s x b) (named_one s name d' d at' at) shows'), is ∙ sym is')
acts_one s (lines.Count name) a b m n h form (d, at, shows, is) (d', at', shows', is') = (counts_one s d a b shows (subst (λ x. Counts s x b) (named_one s name d' d at' at) shows'), is ∙ sym is')

pub does_one : LinesPrintOneText
does_one s line a b m n h form does does' = by (first_refusal s line) does does'
  where
    by : (o : Option Refusal) → MatchOption o (Acts s line a m) (λ why. IsRefused (left_by s line) why a m) → MatchOption o (Acts s line b n) (λ why. IsRefused (left_by s line) why b n) → Alike a b m n
    by None acts acts' = acts_one s line a b m n h form acts acts'
    by (Some why) (said, is) (said', is') = (said ∙ sym said', is ∙ sym is')

pub run_one : RunsPrintOneText
run_one s [] a b m n h all (said, is) (said', is') = (said ∙ sym said', is ∙ sym is')
run_one s (line ∷ rest) a b m n h all (first, mid, more, does, run, said) (first', mid', more', does', run', said') =
    let form = All-head IsLine line rest all in
    let (text, scene) = does_one s line first first' mid mid' h form does does' in
    let (texts, scenes) = run_one mid rest more more' m n (line_keeps s line first mid h form does) (All-tail IsLine line rest all) run (subst (λ z. Run z rest more' n) (sym scene) run') in
    (said ∙ (λ i. text i ++ texts i) ∙ sym said', scenes)

-- a script has one text
pub one_text : OneText
one_text script a b all (m, run) (n, run') = (run_one fresh_scene script a b m n fresh_scene_sound all run run').0
