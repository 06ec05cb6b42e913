-- Every line keeps a scene sound.
use Rattle.std.proofs.Common.{◌≡◌, ◌≢◌, ◌<◌, ◌≤◌, ◌+◌, ◌^◌, ◌++◌, ◌⊎◌, ℕ, List, [], ◌∷◌, length, refl, sym, ap, ◌∙◌, subst, arith, inl, inr, Option, Some, None, MatchOption, Result, Ok, Err}
use Rattle.std.specs.Prelude.{MatchResult, bytes_eq}
use Rattle.std.proofs.lemmas.List.{length-append}
use Rattle.std.proofs.lemmas.List.Elements.{All-head, All-tail}
use Rattle.std.proofs.lemmas.List.Quantifiers.{position-Some}
use Rattle.frs_base.specs.Identifiers.{database_of}
use Rattle.frs_base.specs.declared.kind.MemberKind.{MemberKind}
use Rattle.frs_base.specs.declared.kind.MemberKind.TheVariants.{Plain}
use Rattle.win_order.specs.declared.update.Update.{Update}
use Rattle.vol_state.specs.declared.command.VolCmd.{VolCmd}
use Rattle.vol_state.specs.declared.operation.LocalOp.{LocalOp}
use Rattle.vol_state.specs.declared.operation.LocalOp.TheVariants as op
use Rattle.vol_state.specs.declared.operation.Refused.{Refused}
use Rattle.vol_state.specs.State.{State}
use Rattle.vol_state.specs.Seen.{fresh_state}
use Rattle.script_lang.specs.Grammar.{IsLine}
use Rattle.script_lang.specs.declared.line.Line.{Line}
use Rattle.script_lang.specs.declared.line.Line.TheVariants as lines
use Rattle.world_model.specs.World.{Member, World, with_member}
use Rattle.world_model.specs.Events.{Step, Local as LocalEvent}
use Rattle.world_model.specs.Invariant.{Invariant, IsSound}
use Rattle.world_model.proofs.Changing.{at_each, at_other}
use Rattle.world_model.proofs.Facts.{none_some}
use Rattle.world_model.proofs.Fresh.{fresh_sound}
use Rattle.world_model.proofs.Sums.{member_sums}
use Rattle.world_model.proofs.Versions.{same_consumed}
use Rattle.script_engine.specs.Scene.{Scene, IsNamed, in_world, with_name}
use Rattle.script_engine.specs.Sound.{AreLists, AreStaged, IsNobodys, IsSoundScene}
use Rattle.script_engine.specs.declared.refusal.Refusal.{Refusal}
use Rattle.script_engine.specs.declared.refusal.Refusal.TheVariants.{Local}
use Rattle.script_engine.specs.Refusals.{first_refusal}
use Rattle.script_engine.specs.Text.{Acts, Changes, Does, IsRefused, Operates, filled, last_text, left_by, text_unless, usn_text}
use Rattle.script_engine.specs.declared.consumed.Consumed.{Consumed}
use Rattle.script_engine.specs.Consuming.{ConsumesAll}
use Rattle.script_engine.specs.Scripts.{FreshScenesAreSound, LinesKeepScenesSound, RunsKeepScenesSound}
use Rattle.script_engine.proofs.Drained.{drains_pass, drains_stage}
use Rattle.script_engine.proofs.Gives.{scene_kept}
use Rattle.script_engine.proofs.Installed.{installs_pass, installs_stage}
use Rattle.script_engine.proofs.Leading.{Leads, leads_by, leads_sound, leads_trans}
use Rattle.script_engine.proofs.Passing.{consumes_all_passes, consumes_next_passes, passes_local}
use Rattle.script_engine.proofs.Pulled.{consumes_all_unstages, consumes_next_unstages, local_unstages, pulls_lead}
use Rattle.script_engine.proofs.Vectors.{HasVector, no_versions}
use Rattle.script_engine.proofs.Volumes.{fresh_lists}

-- ---- names

-- a named database is that of a name's place
pub named_place : (s : Scene) (name : List ℕ) (d : ℕ) → IsNamed s name d → (k : ℕ) × (k < length s.names) × (d ≡ database_of (k + 1))
named_place s name d (k, place, is) = (k, (position-Some (λ n. bytes_eq n name) s.names k name place).0, is)

pub named_somebodys : (s : Scene) (name : List ℕ) (d j : ℕ) → IsNamed s name d → IsNobodys s j → j ≢ d
named_somebodys s name d j named nobody e = let (k, within, is) = named_place s name d named in nobody k within (e ∙ is)

-- a scene whose world went on at a named member
pub scene_after : (s new : Scene) (name : List ℕ) (d : ℕ) → IsSoundScene s → IsNamed s name d → Leads d s new → IsSoundScene new
scene_after s new name d h named l = leads_sound d s new h l (λ j nobody. named_somebodys s name d j named nobody)

-- ---- a new member

-- a member of another kind
kind_sound : (all : List Update) (own : ℕ) (x : Member) (kind : MemberKind) → IsSound all own x → IsSound all own (record x { kind = kind })
kind_sound all own x kind h = record {
  places = h.places;
  numbers = h.numbers;
  journal = h.journal;
  objects = record { recorded = h.objects.recorded; reached = h.objects.reached; kinds = h.objects.kinds; tagged = h.objects.tagged; no_root = h.objects.no_root };
  contents = record { keeps = h.contents.keeps; staged = h.contents.staged };
}

kind_world : (w : World) (d : ℕ) (kind : MemberKind) → Invariant w → Invariant (with_member w d (record (w.at d) { kind = kind }))
kind_world w d kind h =
    let x : Member = record (w.at d) { kind = kind } in
    let new : World = with_member w d x in
    let same : (j : ℕ) → (new.at j).consumed ≡ (w.at j).consumed = same_consumed w d x refl in
    let known : (j : ℕ) → (new.at j).known ≡ (w.at j).known = at_each (λ j (y : Member). y.known ≡ (w.at j).known) w.at d x refl (λ j n. refl) in
    record {
      versions = record {
        begun = λ j. subst (λ n. 9 ≤ n) (sym (same j)) (h.versions.begun j);
        one_each = h.versions.one_each;
        recorded = λ u a. let k = h.versions.recorded u a in (k.0, subst (λ n. u.gvsn.version < n) (sym (same u.gvsn.db)) k.1);
        known = λ j g t. let k = h.versions.known j g (sym (ap (λ f. f g) (known j)) ∙ t) in (k.0, subst (λ n. g.version < n) (sym (same g.db)) k.1);
        sent = λ s g a t. let k = h.versions.sent s g a t in (k.0, subst (λ n. g.version < n) (sym (same g.db)) k.1);
        own = λ g k. ap (λ f. f g) (known g.db) ∙ h.versions.own g (k.0, subst (λ n. g.version < n) (same g.db) k.1);
      };
      sent = record {
        vectors = λ s g a t. ap (λ f. f g) (known s.from) ∙ h.sent.vectors s g a t;
        updates = λ s a. let k = h.sent.updates s a in (k.0, ap (λ f. f s.update.gvsn) (known s.from) ∙ k.1);
      };
      members = at_each (λ j y. IsSound w.all j y) w.at d x (kind_sound w.all d (w.at d) kind (h.members d)) (λ j n. h.members j);
      files = record { kinds = h.files.kinds; made = λ u a. subst (λ n. u.uid.version < n) (sym (same u.uid.db)) (h.files.made u a); no_root = h.files.no_root };
      clocks = h.clocks;
      sums = member_sums w d x h.sums (h.sums.objects d);
    }

abbrev HasVolume : ℕ → Member → Type 0
HasVolume d x = (v : State) × AreLists d x.volume v

-- databases of different places differ
place_apart : (j k : ℕ) → j < k → database_of (k + 1) ≢ database_of (j + 1)
place_apart j k less e = omega arith

more_names : (names : List (List ℕ)) (name : List ℕ) → length (names ++ name ∷ []) ≡ length names + 1
more_names names name = length-append names (name ∷ [])

pub sound_with_name : (s : Scene) (name : List ℕ) (kind : MemberKind) → IsSoundScene s → IsSoundScene (with_name s name kind)
sound_with_name s name kind h =
    let d = database_of (length s.names + 1) in
    let x : Member = record (s.world.at d) { kind = kind } in
    let longer = more_names s.names name in
    record {
      world = record {
        invariant = kind_world s.world d kind h.world.invariant;
        volumes = at_each HasVolume s.world.at d x (h.world.volumes d) (λ j n. h.world.volumes j);
        vectors = at_each (λ j (y : Member). HasVector y.known) s.world.at d x (h.world.vectors d) (λ j n. h.world.vectors j);
      };
      staged = at_each (λ j (y : Member). AreStaged y (s.contents j)) s.world.at d x (h.staged d) (λ j n. h.staged j);
      unnamed = λ j nobody.
          let apart : j ≢ d = nobody (length s.names) (omega (arith, longer)) in
          let (old, is) = h.unnamed j (λ k within. nobody k (omega (arith, longer, within))) in
          (old, at_other s.world.at d x j apart ∙ is);
    }

-- ---- the first scene

pub fresh_scene_sound : FreshScenesAreSound
fresh_scene_sound = record {
  staged = λ d uid sum e. absurd (none_some sum e);
  world = record { invariant = fresh_sound (λ d. Plain); volumes = λ d. (fresh_state d, fresh_lists d); vectors = λ d. no_versions };
  unnamed = λ d nobody. (Plain, refl);
}

-- ---- lines

-- what a line does: it is refused or it acts
pub acts_or_not : (s : Scene) (line : Line) (text : List ℕ) (new : Scene) → Does s line text new → Acts s line text new ⊎ (new ≡ left_by s line)
acts_or_not s line text new does = by (first_refusal s line) does
  where
    by : (o : Option Refusal) → MatchOption o (Acts s line text new) (λ why. IsRefused (left_by s line) why text new) → Acts s line text new ⊎ (new ≡ left_by s line)
    by None acts = inl acts
    by (Some why) (said, same) = inr same

-- what holds of the scene, and of every scene whose world went on at a named member, holds of the new one
pub record Follows (s : Scene) (P : Scene → Type 0) : Type 0 where
  pub same : P s
  pub further : (name : List ℕ) (d : ℕ) (new : Scene) → IsNamed s name d → Leads d s new → P new
  pub named : (name : List ℕ) (kind : MemberKind) → P (with_name s name kind)

operated_follows : (s : Scene) (P : Scene → Type 0) (name : List ℕ) (d : ℕ) (operation : LocalOp) (text : List ℕ) (new : Scene) → IsSoundScene s → Follows s P → IsNamed s name d → Operates s d operation text new → P new
operated_follows s P name d operation text new h f named (answer, resolved, acts) = by answer acts
  where
    by : (answer : Result VolCmd Refused)
        → MatchResult answer (λ cmd. (w : World) × Step s.world d (LocalEvent cmd) w × (text ≡ usn_text (s.world.at d).volume.next_usn) × (new ≡ in_world s w)) (λ why. IsRefused s (Local why) text new) → P new
    by (Ok cmd) (w, step, said, is) = subst P (sym is) (f.further name d (in_world s w) named (leads_by d s w (passes_local s.world d cmd w h.world step) (local_unstages s.world d cmd w step)))
    by (Err why) (said, is) = subst P (sym is) f.same

changed_follows : (s : Scene) (P : Scene → Type 0) (name : List ℕ) (d : ℕ) (operation : LocalOp) (moment : ℕ) (text : List ℕ) (new : Scene) → moment < 2 ^ 61 → IsSoundScene s → Follows s P → IsNamed s name d
    → Changes s name d operation moment text new → P new
changed_follows s P name d operation moment text new early h f named (answer, resolved, acts) = by answer acts
  where
    by : (answer : Result VolCmd Refused)
        → MatchResult answer
        (λ cmd. (put : World) × (w : World) × (done : List Consumed) × (why : Option Refusal) × Step s.world d (LocalEvent cmd) put × ConsumesAll put d moment done why w
        × (text ≡ text_unless why (last_text name done)) × (new ≡ in_world s w))
        (λ why. IsRefused s (Local why) text new) → P new
    by (Ok cmd) (put, w, done, why, step, consumed, said, is) =
        let p = passes_local s.world d cmd put h.world step in
        let l = leads_by d s put p (local_unstages s.world d cmd put step) in
        let m = leads_by d (in_world s put) w (consumes_all_passes put d moment done why w early p.sound consumed) (consumes_all_unstages put d moment done why w consumed) in
        subst P (sym is) (f.further name d (in_world s w) named (leads_trans d s (in_world s put) (in_world s w) l m))
    by (Err why) (said, is) = subst P (sym is) f.same

acts_follow : (s : Scene) (P : Scene → Type 0) (line : Line) (text : List ℕ) (new : Scene) → IsSoundScene s → IsLine line → Follows s P → Acts s line text new → P new
acts_follow s P (lines.Member name kind) text new h form f (said, is) = subst P (sym is) (f.named name kind)
acts_follow s P (lines.Put name path bytes) text new h form f (d, named, acts) = operated_follows s P name d (op.Put path bytes) text new h f named acts
acts_follow s P (lines.Fill name path count) text new h form f (d, named, acts) = operated_follows s P name d (op.Put path (filled count)) text new h f named acts
acts_follow s P (lines.Mkdir name path) text new h form f (d, named, acts) = operated_follows s P name d (op.Mkdir path) text new h f named acts
acts_follow s P (lines.Move name from to) text new h form f (d, named, acts) = operated_follows s P name d (op.Move from to) text new h f named acts
acts_follow s P (lines.Remove name path) text new h form f (d, named, acts) = operated_follows s P name d (op.Remove path) text new h f named acts
acts_follow s P (lines.Consume name moment) text new h form f (d, named, (done, why, w, next, said, is)) =
    subst P (sym is) (f.further name d (in_world s w) named (leads_by d s w (consumes_next_passes s.world d moment done why w form.1 h.world next) (consumes_next_unstages s.world d moment done why w next)))
acts_follow s P (lines.Change name path moment) text new h form f (d, named, acts) = changed_follows s P name d (op.Put path []) moment text new form.2 h f named acts
acts_follow s P (lines.Pull name other) text new h form f (puller, server, taken, why, named, there, pulls, said) = f.further name puller new named (pulls_lead s puller server taken why new (scene_kept s h) pulls)
acts_follow s P (lines.Install name) text new h form f (d, named, (outcome, w, installs, said, is)) =
    subst P (sym is) (f.further name d (in_world s w) named (leads_by d s w (installs_pass s d outcome w h.world installs) (installs_stage s d outcome w h.world installs)))
acts_follow s P (lines.Drain name) text new h form f (d, named, (steps, why, w, drains, said, is)) =
    subst P (sym is) (f.further name d (in_world s w) named (leads_by d s w (drains_pass s d steps why w h.world drains) (drains_stage s d steps why w h.world drains)))
acts_follow s P (lines.Show name) text new h form f (d, named, shows, is) = subst P (sym is) f.same
acts_follow s P (lines.Tree name) text new h form f (d, named, shows, is) = subst P (sym is) f.same
acts_follow s P (lines.Sums name) text new h form f (d, named, shows, is) = subst P (sym is) f.same
acts_follow s P (lines.Count name) text new h form f (d, named, shows, is) = subst P (sym is) f.same

-- what a refused line leaves follows
left_follows : (s : Scene) (P : Scene → Type 0) (line : Line) → Follows s P → P (left_by s line)
left_follows s P (lines.Member name kind) f = f.named [] Plain
left_follows s P (lines.Put name path bytes) f = f.same
left_follows s P (lines.Fill name path count) f = f.same
left_follows s P (lines.Mkdir name path) f = f.same
left_follows s P (lines.Move name from to) f = f.same
left_follows s P (lines.Remove name path) f = f.same
left_follows s P (lines.Consume name moment) f = f.same
left_follows s P (lines.Change name path moment) f = f.same
left_follows s P (lines.Pull name other) f = f.same
left_follows s P (lines.Install name) f = f.same
left_follows s P (lines.Drain name) f = f.same
left_follows s P (lines.Show name) f = f.same
left_follows s P (lines.Tree name) f = f.same
left_follows s P (lines.Sums name) f = f.same
left_follows s P (lines.Count name) f = f.same

pub does_follow : (s : Scene) (P : Scene → Type 0) (line : Line) (text : List ℕ) (new : Scene) → IsSoundScene s → IsLine line → Follows s P → Does s line text new → P new
does_follow s P line text new h form f does = elim (acts_or_not s line text new does) [ inl acts ↦ acts_follow s P line text new h form f acts | inr is ↦ subst P (sym is) (left_follows s P line f) ]

pub line_keeps : LinesKeepScenesSound
line_keeps s line text new h form does = does_follow s IsSoundScene line text new h form (record {
  same = h;
  further = λ name d new named l. scene_after s new name d h named l;
  named = λ name kind. sound_with_name s name kind h;
}) does

pub run_keeps : RunsKeepScenesSound
run_keeps s [] text new h all (said, is) = subst IsSoundScene (sym is) h
run_keeps s (line ∷ rest) text new h all (first, mid, more, does, run, said) =
    run_keeps mid rest more new (line_keeps s line first mid h (All-head IsLine line rest all) does) (All-tail IsLine line rest all) run
