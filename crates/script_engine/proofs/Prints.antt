-- Every line prints something and leads on.
use Rattle.std.proofs.Common.{◌≡◌, ◌≢◌, ◌<◌, ◌+◌, ◌^◌, ℕ, Bool, true, false, cond, List, [], ◌∷◌, get_or, length, refl, sym, ap, ◌∙◌, subst, arith, Option, Some, None, MatchOption, Result, Ok, Err}
use Rattle.std.specs.Prelude.{bytes_eq, codes, decimal, is_some}
use Rattle.std.proofs.lemmas.List.Quantifiers.{position-Some}
use Rattle.std.proofs.lemmas.Slice.Eq.{bytes_eq-Decides}
use Rattle.frs_base.specs.Identifiers.{database_of}
use Rattle.vol_state.specs.declared.command.VolCmd.{VolCmd}
use Rattle.vol_state.specs.declared.operation.LocalOp.{LocalOp}
use Rattle.vol_state.specs.declared.operation.LocalOp.TheVariants as op
use Rattle.vol_state.specs.declared.operation.Refused.{Refused}
use Rattle.vol_state.specs.Paths.{resolve}
use Rattle.vol_state.specs.Ways.{Resolves}
use Rattle.vol_state.proofs.Permitted.{resolved_may}
use Rattle.vol_state.proofs.Resolved.{lists_resolve}
use Rattle.script_lang.specs.Grammar.{IsLine}
use Rattle.script_lang.specs.declared.line.Line.{Line}
use Rattle.script_lang.specs.declared.line.Line.TheVariants as lines
use Rattle.world_model.specs.World.{World, with_member}
use Rattle.world_model.specs.Events.{Step, Local as LocalEvent, operated}
use Rattle.world_model.proofs.Facts.{none_some}
use Rattle.script_engine.specs.Scene.{Scene, IsNamed, fresh_scene, in_world, members_of, place_of, with_name}
use Rattle.script_engine.specs.Sound.{IsSoundScene}
use Rattle.script_engine.specs.Printed.{printed}
use Rattle.script_engine.specs.declared.refusal.Refusal.{Refusal}
use Rattle.script_engine.specs.declared.refusal.Refusal.TheVariants.{Itself, Local, Unknown}
use Rattle.script_engine.specs.Refusals.{first_refusal, refused_text, unless_named}
use Rattle.script_engine.specs.Trees.{IsTreeOf, Row, files_of, sums_text, tree_text}
use Rattle.script_engine.specs.Text.{Acts, Changes, Consumes, Does, DrainsAll, InstallsNext, IsRefused, Operates, count_text, filled, installed_text, last_text, left_by, text_unless, usn_text}
use Rattle.script_engine.specs.Scripts.{EveryLinePrints}
use Rattle.script_engine.proofs.Going.{consumes_all_some, consumes_next_some, pulls_some}
use Rattle.script_engine.proofs.Drained.{drains_some}
use Rattle.script_engine.proofs.Gives.{scene_kept}
use Rattle.script_engine.proofs.Installed.{installs_some}
use Rattle.script_engine.proofs.Passing.{passes_local}
use Rattle.script_engine.proofs.Listed.{records_some}
use Rattle.script_engine.proofs.Scenes.{fresh_scene_sound, run_keeps}
use Rattle.script_engine.proofs.Sorting.{some_tree}

-- ---- names

-- a name that isn't refused is a member's
named_some : (s : Scene) (name : List ℕ) → unless_named s name ≡ None → (d : ℕ) × IsNamed s name d
named_some s name e = by (place_of s.names name) refl e
  where
    by : (o : Option ℕ) → place_of s.names name ≡ o → cond (is_some o) None (Some (Unknown name)) ≡ None → (d : ℕ) × IsNamed s name d
    by None at q = absurd (none_some (Unknown name) (sym q))
    by (Some k) at q = (database_of (k + 1), (k, at, refl))

-- two names that aren't one are two members'
named_apart : (s : Scene) (name other : List ℕ) (d e : ℕ) → bytes_eq name other ≡ false → IsNamed s name d → IsNamed s other e → e ≢ d
named_apart s name other d e apart (k, at, is) (j, at', is') same =
    let one : database_of (j + 1) ≡ database_of (k + 1) = sym is' ∙ (same ∙ is) in
    let places : j ≡ k = omega (arith, one) in
    let here : bytes_eq (get_or s.names k name) name ≡ true = (position-Some (λ n. bytes_eq n name) s.names k name at).1 in
    let there : bytes_eq (get_or s.names j name) other ≡ true = (position-Some (λ n. bytes_eq n other) s.names j name at').1 in
    let a : get_or s.names k name ≡ name = (bytes_eq-Decides (get_or s.names k name) name).0 here in
    let b : get_or s.names j name ≡ other = (bytes_eq-Decides (get_or s.names j name) other).0 there in
    let c : bytes_eq name other ≡ true = (bytes_eq-Decides name other).1 (sym a ∙ ap (λ i. get_or s.names i name) (sym places) ∙ b) in
    cc

-- ---- what a member does

-- a text and a scene
abbrev Leads : (List ℕ → Scene → Type 0) → Type 0
Leads Does = (text : List ℕ) × (new : Scene) × Does text new

-- an operation's answer
answered : (s : Scene) (d : ℕ) (operation : LocalOp) → IsSoundScene s → (answer : Result VolCmd Refused) × Resolves (s.world.at d).volume operation answer
answered s d operation h = let (v, l) = h.world.volumes d in (resolve v.objects operation, lists_resolve operation v (s.world.at d).volume l.valid l.stands)

-- a command that may be done is
commanded : (s : Scene) (d : ℕ) (operation : LocalOp) (cmd : VolCmd) → Resolves (s.world.at d).volume operation (Ok cmd) → (w : World) × Step s.world d (LocalEvent cmd) w
commanded s d operation cmd r = (with_member s.world d (operated d cmd (s.world.at d)), (resolved_may operation (s.world.at d).volume cmd r, refl))

operates_some : (s : Scene) (d : ℕ) (operation : LocalOp) → IsSoundScene s → Leads (Operates s d operation)
operates_some s d operation h = let (answer, r) = answered s d operation h in by answer r
  where
    by : (answer : Result VolCmd Refused) → Resolves (s.world.at d).volume operation answer → Leads (Operates s d operation)
    by (Ok cmd) r = let (w, step) = commanded s d operation cmd r in (usn_text (s.world.at d).volume.next_usn, in_world s w, (Ok cmd, r, (w, step, refl, refl)))
    by (Err why) r = (refused_text (Local why), s, (Err why, r, (refl, refl)))

changes_some : (s : Scene) (name : List ℕ) (d : ℕ) (operation : LocalOp) (moment : ℕ) → moment < 2 ^ 61 → IsSoundScene s → Leads (Changes s name d operation moment)
changes_some s name d operation moment early h = let (answer, r) = answered s d operation h in by answer r
  where
    by : (answer : Result VolCmd Refused) → Resolves (s.world.at d).volume operation answer → Leads (Changes s name d operation moment)
    by (Ok cmd) r =
        let (put, step) = commanded s d operation cmd r in
        let p = passes_local s.world d cmd put h.world step in
        let (done, why, w, all) = consumes_all_some put d moment early p.sound in
        (text_unless why (last_text name done), in_world s w, (Ok cmd, r, (put, w, done, why, step, all, refl, refl)))
    by (Err why) r = (refused_text (Local why), s, (Err why, r, (refl, refl)))

consumes_some : (s : Scene) (name : List ℕ) (d moment : ℕ) → IsSoundScene s → Leads (Consumes s name d moment)
consumes_some s name d moment h = let (done, why, w, next) = consumes_next_some s.world d moment h.world in (text_unless why (last_text name done), in_world s w, (done, why, w, next, refl, refl))

-- ---- lines

tree_some : (s : Scene) (d : ℕ) → IsSoundScene s → (rows : List Row) × IsTreeOf (s.world.at d).volume rows
tree_some s d h = let (v, l) = h.world.volumes d in some_tree v (s.world.at d).volume l.valid l.stands

-- what a named member does
by_name : (s : Scene) (name : List ℕ) (P : ℕ → List ℕ → Scene → Type 0) → unless_named s name ≡ None → ((d : ℕ) → Leads (P d)) → Leads (λ text new. (d : ℕ) × IsNamed s name d × P d text new)
by_name s name P e some = let (d, named) = named_some s name e in let (text, new, p) = some d in (text, new, (d, named, p))

-- of the refusals of a pull none applies
pull_named : (s : Scene) (name other : List ℕ) → first_refusal s (lines.Pull name other) ≡ None → (p : ℕ) × (q : ℕ) × IsNamed s name p × IsNamed s other q × (q ≢ p)
pull_named s name other e = by (place_of s.names name) (place_of s.names other) (bytes_eq name other) refl refl refl e
  where
    by : (a b : Option ℕ) (c : Bool) → place_of s.names name ≡ a → place_of s.names other ≡ b → bytes_eq name other ≡ c
        → cond (is_some a) (cond (is_some b) (cond c (Some Itself) None) (Some (Unknown other))) (Some (Unknown name)) ≡ None
        → (p : ℕ) × (q : ℕ) × IsNamed s name p × IsNamed s other q × (q ≢ p)
    by None b c at from apart q = absurd (none_some (Unknown name) (sym q))
    by (Some k) None c at from apart q = absurd (none_some (Unknown other) (sym q))
    by (Some k) (Some j) true at from apart q = absurd (none_some Itself (sym q))
    by (Some k) (Some j) false at from apart q =
        (database_of (k + 1), database_of (j + 1), (k, at, refl), (j, from, refl), named_apart s name other (database_of (k + 1)) (database_of (j + 1)) apart (k, at, refl) (j, from, refl))

acts_some : (s : Scene) (line : Line) → IsSoundScene s → IsLine line → first_refusal s line ≡ None → Leads (Acts s line)
acts_some s (lines.Member name kind) h form e = (printed (codes "ok" ∷ []), with_name s name kind, (refl, refl))
acts_some s (lines.Put name path bytes) h form e = by_name s name (λ d. Operates s d (op.Put path bytes)) e (λ d. operates_some s d (op.Put path bytes) h)
acts_some s (lines.Fill name path count) h form e = by_name s name (λ d. Operates s d (op.Put path (filled count))) e (λ d. operates_some s d (op.Put path (filled count)) h)
acts_some s (lines.Mkdir name path) h form e = by_name s name (λ d. Operates s d (op.Mkdir path)) e (λ d. operates_some s d (op.Mkdir path) h)
acts_some s (lines.Move name from to) h form e = by_name s name (λ d. Operates s d (op.Move from to)) e (λ d. operates_some s d (op.Move from to) h)
acts_some s (lines.Remove name path) h form e = by_name s name (λ d. Operates s d (op.Remove path)) e (λ d. operates_some s d (op.Remove path) h)
acts_some s (lines.Consume name moment) h form e = by_name s name (λ d. Consumes s name d moment) e (λ d. consumes_some s name d moment h)
acts_some s (lines.Change name path moment) h form e = by_name s name (λ d. Changes s name d (op.Put path []) moment) e (λ d. changes_some s name d (op.Put path []) moment form.2 h)
acts_some s (lines.Pull name other) h form e =
    let (p, q, at, from, apart) = pull_named s name other e in
    let (taken, why, new, pulls) = pulls_some s p q (scene_kept s h) apart in
    (text_unless why (printed (codes "pulled" ∷ decimal taken ∷ [])), new, (p, q, taken, why, at, from, pulls, refl))
acts_some s (lines.Install name) h form e =
    by_name s name (λ d. InstallsNext s name d) e (λ d. let (outcome, w, installs) = installs_some s d h in (installed_text (members_of s) name outcome, in_world s w, (outcome, w, installs, refl, refl)))
acts_some s (lines.Drain name) h form e =
    by_name s name (λ d. DrainsAll s d) e (λ d. let (steps, why, w, drains) = drains_some s d h in (text_unless why (printed (codes "drained" ∷ decimal (length steps) ∷ [])), in_world s w, (steps, why, w, drains, refl, refl)))
acts_some s (lines.Show name) h form e =
    let (d, named) = named_some s name e in
    let (vector, v) = h.world.vectors d in
    let (records, l) = records_some s.world d h.world.invariant.versions in
    (_, s, (d, named, (vector, records, v, l, refl), refl))
acts_some s (lines.Tree name) h form e =
    let (d, named) = named_some s name e in
    let (rows, is) = tree_some s d h in
    (tree_text rows, s, (d, named, (rows, is, refl), refl))
acts_some s (lines.Sums name) h form e =
    let (d, named) = named_some s name e in
    let (rows, is) = tree_some s d h in
    (sums_text (files_of rows), s, (d, named, (rows, is, refl), refl))
acts_some s (lines.Count name) h form e =
    let (d, named) = named_some s name e in
    let (vector, v) = h.world.vectors d in
    let (records, l) = records_some s.world d h.world.invariant.versions in
    let (rows, is) = tree_some s d h in
    (count_text records rows vector, s, (d, named, (vector, records, rows, v, l, is, refl), refl))

-- each line prints something in every sound scene
pub line_prints : (s : Scene) (line : Line) → IsSoundScene s → IsLine line → Leads (Does s line)
line_prints s line h form = by (first_refusal s line) refl
  where
    by : (o : Option Refusal) → first_refusal s line ≡ o → Leads (Does s line)
    by None e = let (text, new, acts) = acts_some s line h form e in (text, new, subst (λ o. MatchOption o (Acts s line text new) (λ why. IsRefused (left_by s line) why text new)) (sym e) acts)
    by (Some why) e =
        let new = left_by s line in
        (refused_text why, new, subst (λ o. MatchOption o (Acts s line (refused_text why) new) (λ why'. IsRefused new why' (refused_text why) new)) (sym e) (refl, refl))

-- in every scene that a run reaches
pub every_line : EveryLinePrints
every_line before said s all run line form = line_prints s line (run_keeps fresh_scene before said s fresh_scene_sound all run) form
