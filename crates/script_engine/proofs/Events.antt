-- What the calls of an engine do to the scene that it stands for, one event each.
use Rattle.std.proofs.Common.{◌≡◌, ◌≢◌, ◌<◌, ◌≤◌, ◌+◌, ◌-◌, ◌*◌, ◌^◌, ◌⊎◌, ℕ, List, [], length, set, refl, sym, ap, ◌∙◌, subst, arith, inl, inr, Option, Some, None, Result, Ok, Err}
use Rattle.std.specs.Prelude.{IfOk, map, slice_get, sum_by}
use Rattle.std.proofs.lemmas.List.Sums.{sum_by-le-sum_by}
use Rattle.frs_base.specs.Identifiers.{database_of}
use Rattle.frs_base.specs.declared.version.Uid.{Uid}
use Rattle.win_order.specs.declared.update.Update.{Update}
use Rattle.vol_state.specs.declared.operation.LocalOp.{LocalOp}
use Rattle.vol_state.specs.declared.operation.Refused.{Refused}
use Rattle.vol_state.specs.State.{State}
use Rattle.name_rules.specs.declared.step.Step.{Step as InstallStep}
use Rattle.world_model.specs.World.{World}
use Rattle.world_model.specs.Events.{Records, consumes}
use Rattle.folder_core.specs.declared.event.Event.{Event}
use Rattle.folder_core.specs.declared.event.Event.TheVariants as event
use Rattle.folder_core.specs.declared.reply.Reply.{Reply}
use Rattle.folder_core.specs.Machine.{Machine}
use Rattle.folder_core.specs.Replay.{Does, Seen}
use Rattle.folder_core.specs.Sound.{IsSound}
use Rattle.script_engine.specs.declared.consumed.Consumed.{Consumed}
use Rattle.script_engine.specs.declared.consumed.Consumed.TheVariants as consumed
use Rattle.script_engine.specs.declared.engine.Engine.{Engine}
use Rattle.script_engine.specs.declared.refusal.Refusal.{Refusal}
use Rattle.script_engine.specs.declared.refusal.Refusal.TheVariants.{VectorFull}
use Rattle.script_engine.specs.Named.{AreNamed}
use Rattle.script_engine.specs.Scene.{Contents, Scene, fresh_scene, in_world}
use Rattle.script_engine.specs.Consuming.{widened}
use Rattle.script_engine.specs.Widening.{Fits}
use Rattle.script_engine.specs.Standing.{HaveRoom, HoldsContents, MachinesStand, local_in, recorded_in, unconsumed_in}
use Rattle.script_engine.specs.Engines.{Answered, ConsumedNext, Operated, Stands, count_of, local_by_all, machines_of, unconsumed_by_all}
use Rattle.script_engine.specs.Installing.{Installs, InstallsSome}
use Rattle.script_engine.specs.Replies.{consumed_of, installed_of, usn_of}
use Rattle.script_engine.proofs.Drained.{some_bound}
use Rattle.script_engine.proofs.Gives.{scene_kept}
use Rattle.script_engine.proofs.Stepping.{steps_at}
use Rattle.script_engine.proofs.Journals.{local_same, recorded_less}
use Rattle.script_engine.proofs.Pairs.{get_map, get_within, part_of, map_set, set_same, sum_set}
use Rattle.script_engine.proofs.Advancing.{Goes, machines_on}
use Rattle.script_engine.proofs.Scenes.{fresh_scene_sound}
use Rattle.script_engine.proofs.Operating.{Done, Stays, operates}
use Rattle.script_engine.proofs.Consumption.{AreBounded, Consumes, Ends, IsTooFull, consumes_at, reply_of}

-- ---- one machine more or less

-- an engine stands for what its member went on to, with the contents that the member has staged then
pub stands_with : (old new : Engine) (s : Scene) (at : ℕ) (m next : Machine) (after : World) (contents : Contents) → Stands old s → new.names ≡ old.names → slice_get (machines_of old) at ≡ Some m → machines_of new ≡ set (machines_of old) at next
    → Goes s.world (database_of (at + 1)) m next after → ((j : ℕ) → j ≢ database_of (at + 1) → contents j ≡ s.contents j) → HoldsContents (contents (database_of (at + 1))) next → next.volume.next_usn < 2 ^ 64
    → Stands new (record s { world = after; contents = contents })
stands_with old new s at m next after contents h names found machines g beside holds usns = record {
  names = ap (λ x. x.items) names ∙ h.names;
  formed = subst (λ x. AreNamed x.items) (sym names) h.formed;
  machines = subst (λ ms. MachinesStand ms (record s { world = after; contents = contents })) (sym machines) (machines_on (machines_of old) s at m next after contents h.machines found g beside holds usns);
}

-- each form that is staged was
abbrev pub Keeps : Machine → Machine → Type 0
Keeps m next = (contents : Uid → List ℕ) → HoldsContents contents m → HoldsContents contents next

-- where nothing is staged that wasn't, it has the contents that it had
pub stands_on : (old new : Engine) (s : Scene) (at : ℕ) (m next : Machine) (after : World) → Stands old s → new.names ≡ old.names → slice_get (machines_of old) at ≡ Some m → machines_of new ≡ set (machines_of old) at next
    → Goes s.world (database_of (at + 1)) m next after → Keeps m next → next.volume.next_usn < 2 ^ 64 → Stands new (in_world s after)
stands_on old new s at m next after h names found machines g keeps usns =
    stands_with old new s at m next after s.contents h names found machines g (λ j n. refl) (keeps (s.contents (database_of (at + 1))) (h.machines.contents at m found)) usns

-- where the machine stays, it stands for the same
pub stands_still : (old new : Engine) (s : Scene) (at : ℕ) (m next : Machine) → Stands old s → new.names ≡ old.names → slice_get (machines_of old) at ≡ Some m → machines_of new ≡ set (machines_of old) at next
    → next ≡ m → Stands new s
stands_still old new s at m next h names found machines same = record {
  names = ap (λ x. x.items) names ∙ h.names;
  formed = subst (λ x. AreNamed x.items) (sym names) h.formed;
  machines = subst (λ ms. MachinesStand ms s) (sym (machines ∙ ap (set (machines_of old) at) same ∙ set_same (machines_of old) at m found)) h.machines;
}

-- how many local records there are after one machine was set
pub local_after : (old new : Engine) (at : ℕ) (m next : Machine) → slice_get (machines_of old) at ≡ Some m → machines_of new ≡ set (machines_of old) at next → local_by_all new + local_in m ≡ local_by_all old + local_in next
local_after old new at m next found machines = ap (λ ms. sum_by local_in ms + local_in m) machines ∙ sum_set local_in (machines_of old) at m next found

-- how many journal records aren't consumed
unconsumed_after : (old new : Engine) (at : ℕ) (m next : Machine) → slice_get (machines_of old) at ≡ Some m → machines_of new ≡ set (machines_of old) at next
    → unconsumed_by_all new + unconsumed_in m ≡ unconsumed_by_all old + unconsumed_in next
unconsumed_after old new at m next found machines = ap (λ ms. sum_by unconsumed_in ms + unconsumed_in m) machines ∙ sum_set unconsumed_in (machines_of old) at m next found

-- ---- bounds

-- no more updates were recorded than there are local records
pub few_recorded : (machines : List Machine) (s : Scene) → MachinesStand machines s → HaveRoom machines → length s.world.all < 2 ^ 60
few_recorded machines s h room = let less = sum_by-le-sum_by recorded_in local_in machines recorded_less in let counted = h.counted in omega (arith, less, counted, room)

-- ---- a local operation

-- the reply says what came of it
pub record Operates (at : ℕ) (operation : LocalOp) (reply : Reply) (old new : Engine) (s : Scene) : Type 0 where
  pub outcome : Result ℕ Refused
  pub reads : usn_of reply ≡ Some outcome
  pub after : World
  pub operated : Operated s.world (database_of (at + 1)) operation outcome after
  pub stands : Stands new (in_world s after)
  pub made : local_by_all new ≤ local_by_all old + 1

pub operated_on : (at : ℕ) (operation : LocalOp) (reply : Reply) (old new : Engine) (s : Scene) → Stands old s → new.names ≡ old.names → Answered at (event.Local operation) reply old new → Operates at operation reply old new s
operated_on at operation reply old new s h names a =
    let d = database_of (at + 1) in
    by (operates s.world d operation a.before reply a.after h.machines.scene.world (h.machines.each at a.before a.found) a.sound a.answers)
  where
    by : Done s.world (database_of (at + 1)) operation a.before reply a.after ⊎ Stays s.world (database_of (at + 1)) operation a.before reply a.after → Operates at operation reply old new s
    by (inl done) = record {
      outcome = Ok (s.world.at (database_of (at + 1))).volume.next_usn;
      reads = ap usn_of done.reply_is;
      after = done.after;
      operated = (done.cmd, done.resolves, done.step, refl);
      stands = stands_on old new s at a.before a.after done.after h names a.found a.machines done.goes done.keeps a.usns;
      made = let sums = local_after old new at a.before a.after a.found a.machines in let one = done.local in omega (arith, sums, one);
    }
    by (inr stays) = record {
      outcome = Err stays.why;
      reads = ap usn_of stays.reply_is;
      after = s.world;
      operated = (stays.resolves, refl);
      stands = stands_still old new s at a.before a.after h names a.found a.machines stays.same;
      made = let sums = local_after old new at a.before a.after a.found a.machines in let same = ap local_in stays.same in omega (arith, sums, same);
    }

-- ---- a journal record consumed

pub record ConsumesAt (at moment : ℕ) (reply : Reply) (old new : Engine) (s : Scene) : Type 0 where
  pub outcome : Result (Option Consumed) Refusal
  pub reads : consumed_of reply ≡ Some outcome
  pub after : World
  pub consumed : ConsumedNext s.world (database_of (at + 1)) moment outcome after
  pub stands : Stands new (in_world s after)
  pub made : local_by_all new ≡ local_by_all old
  pub fewer : unconsumed_by_all new + count_of outcome ≡ unconsumed_by_all old

pub consumed_on : (at moment : ℕ) (reply : Reply) (old new : Engine) (s : Scene) → moment < 2 ^ 61 → local_by_all old < 2 ^ 60 → Stands old s → new.names ≡ old.names → Answered at (event.Consume moment) reply old new → ConsumesAt at moment reply old new s
consumed_on at moment reply old new s early room h names a =
    by (consumes_at s.world (database_of (at + 1)) moment a.before reply a.after bounded h.machines.scene.world h.machines.ours (h.machines.each at a.before a.found) a.sound a.answers)
  where
    bounded : AreBounded s.world moment
    bounded = (early, few_recorded (machines_of old) s h.machines room)

    same_local : a.after.volume ≡ a.before.volume → local_by_all new ≡ local_by_all old
    same_local e = let sums = local_after old new at a.before a.after a.found a.machines in let same = local_same a.before a.after e in omega (arith, sums, same)

    counts : unconsumed_by_all new + unconsumed_in a.before ≡ unconsumed_by_all old + unconsumed_in a.after
    counts = unconsumed_after old new at a.before a.after a.found a.machines

    no_fewer : a.after ≡ a.before → unconsumed_by_all new + 0 ≡ unconsumed_by_all old
    no_fewer e = let same = ap unconsumed_in e in omega (arith, counts, same)

    one_fewer : a.after.volume ≡ a.before.volume → a.after.book.consumed ≡ a.before.book.consumed + 1 → unconsumed_by_all new + 1 ≡ unconsumed_by_all old
    one_fewer same next =
        let usns = ap (λ (v : State). v.next_usn) same in
        let most = a.sound.order.consumed in
        omega (arith, counts, usns, next, most)

    some : (made : Option Update) → Records s.world (database_of (at + 1)) moment made → Fits (widened s.world (database_of (at + 1))) → reply ≡ reply_of (database_of (at + 1)) (s.world.at (database_of (at + 1))).consumed made
        → Goes s.world (database_of (at + 1)) a.before a.after (consumes s.world (database_of (at + 1)) made) → Keeps a.before a.after → a.after.volume ≡ a.before.volume → a.after.book.consumed ≡ a.before.book.consumed + 1 → ConsumesAt at moment reply old new s
    some None records fits is g keeps same next = record {
      outcome = Ok (Some (consumed.Skipped (s.world.at (database_of (at + 1))).consumed));
      reads = ap consumed_of is;
      after = consumes s.world (database_of (at + 1)) None;
      consumed = (refl, fits, records, refl);
      stands = stands_on old new s at a.before a.after _ h names a.found a.machines g keeps a.usns;
      made = same_local same;
      fewer = one_fewer same next;
    }
    some (Some u) records fits is g keeps same next = record {
      outcome = Ok (Some (consumed.Made (s.world.at (database_of (at + 1))).consumed));
      reads = ap consumed_of is;
      after = consumes s.world (database_of (at + 1)) (Some u);
      consumed = (refl, fits, u, records, refl);
      stands = stands_on old new s at a.before a.after _ h names a.found a.machines g keeps a.usns;
      made = same_local same;
      fewer = one_fewer same next;
    }

    by : Ends s.world (database_of (at + 1)) a.before reply a.after
        ⊎ (Consumes s.world (database_of (at + 1)) moment a.before reply a.after ⊎ IsTooFull s.world (database_of (at + 1)) moment a.before reply a.after) → ConsumesAt at moment reply old new s
    by (inl ends) = record {
      outcome = Ok None;
      reads = ap consumed_of ends.reply_is;
      after = s.world;
      consumed = (ends.end, refl);
      stands = stands_still old new s at a.before a.after h names a.found a.machines ends.same;
      made = same_local (ap (λ (x : Machine). x.volume) ends.same);
      fewer = no_fewer ends.same;
    }
    by (inr (inl c)) = some c.made c.records c.fits c.reply_is c.goes c.keeps c.volume c.next
    by (inr (inr full)) = record {
      outcome = Err (VectorFull full.count);
      reads = ap consumed_of full.reply_is;
      after = s.world;
      consumed = (full.count, (full.made, full.records, full.exceeds), refl, refl);
      stands = stands_still old new s at a.before a.after h names a.found a.machines full.same;
      made = same_local (ap (λ (x : Machine). x.volume) full.same);
      fewer = no_fewer full.same;
    }

-- ---- a step of the installer

pub record InstallsAt (at : ℕ) (reply : Reply) (old new : Engine) (s : Scene) : Type 0 where
  pub outcome : Result (Option InstallStep) Refusal
  pub reads : installed_of reply ≡ Some outcome
  pub after : World
  pub installs : Installs s (database_of (at + 1)) outcome after
  pub stands : Stands new (in_world s after)
  pub made : local_by_all new ≡ local_by_all old

pub installed_on : (at : ℕ) (reply : Reply) (old new : Engine) (s : Scene) → Stands old s → new.names ≡ old.names → Answered at event.Install reply old new → InstallsAt at reply old new s
installed_on at reply old new s h names a =
    let steps = steps_at s (database_of (at + 1)) a.before reply a.after (scene_kept s h.machines.scene) h.machines.ours (h.machines.each at a.before a.found) (h.machines.contents at a.before a.found) a.sound a.answers in
    record {
      outcome = steps.outcome;
      reads = steps.reads;
      after = steps.after;
      installs = steps.installs;
      stands = stands_on old new s at a.before a.after steps.after h names a.found a.machines steps.goes steps.keeps a.usns;
      made = let sums = local_after old new at a.before a.after a.found a.machines in let same = steps.local in omega (arith, sums, same);
    }

-- so few steps are done before another one that one more is counted without overflow
pub drain_few : (e : Engine) (s : Scene) (at : ℕ) (steps : List InstallStep) (w : World) (step : InstallStep) (last : World) → Stands e s → at < length (machines_of e) → local_by_all e < 2 ^ 60 → InstallsSome s (database_of (at + 1)) steps w
    → Installs (in_world s w) (database_of (at + 1)) (Ok (Some step)) last → (length steps < 8 * local_by_all e + unconsumed_by_all e) × (length steps + 1 < 2 ^ 128)
drain_few e s at steps w step last h within room some one =
    let d = database_of (at + 1) in
    let (m, found) = get_within (machines_of e) at within in
    let stands = h.machines.each at m found in
    let few = some_bound s d steps w h.machines.scene some step last one in
    let next : (s.world.at d).volume.next_usn ≡ m.volume.next_usn = stands.volume.next_usn in
    let now = stands.book.consumed in
    let usns = h.machines.usns at m found in
    let part = part_of unconsumed_in (machines_of e) at m found in
    let less = sum_by-le-sum_by recorded_in local_in (machines_of e) recorded_less in
    let counted = h.machines.counted in
    let left : (s.world.at d).volume.next_usn - (s.world.at d).consumed ≡ unconsumed_in m = λ i. next i - sym now i in
    (omega (arith, few, left, part, less, counted), omega (arith, few, left, usns, less, counted, room))

-- ---- an event

-- what a folder answers, its engine answers
pub answered_by : (caller at : ℕ) (e : Event) (reply : Reply) (old new : Engine) (before after : Seen) → slice_get old.folders.items at ≡ Some before
    → new.folders.items ≡ set old.folders.items at after → Does caller e reply before after → IsSound after.machine → after.machine.volume.next_usn < 2 ^ 64 → Answered at e reply old new
answered_by caller at e reply old new before after found items (entry, history, enters) sound usns = record {
  place = length before.history + 1;
  before = before.machine;
  after = after.machine;
  found = get_map (λ (f : Seen). f.machine) old.folders.items at before found;
  answers = enters.answers;
  sound = sound;
  usns = usns;
  machines = ap (map (λ (f : Seen). f.machine)) items ∙ map_set (λ (f : Seen). f.machine) old.folders.items at after;
}

-- what holds of each answer holds of the one that came
pub ok_by : {T E : Type 0} (r : Result T E) (P Q : T → Type 0) → IfOk r P → ((x : T) → P x → Q x) → IfOk r Q
ok_by (Ok x) P Q h f = f x h
ok_by (Err e) P Q h f = tt

-- ---- no members

pub fresh_stands : (e : Engine) → e.names.items ≡ [] → e.folders.items ≡ [] → Stands e fresh_scene
fresh_stands e names folders = record {
  names = names;
  formed = subst (AreNamed) (sym names) (λ k d within. absurd (omega (arith, within)));
  machines = subst (λ ms. MachinesStand ms fresh_scene) (sym (ap (map (λ (f : Seen). f.machine)) folders)) (record {
    many = refl;
    each = λ k m at. absurd (cc);
    ours = λ u here. absurd here;
    contents = λ k m at. absurd (cc);
    usns = λ k m at. absurd (cc);
    counted = omega arith;
    scene = fresh_scene_sound;
  });
}
