-- What an event at one member makes of its machine and of the world.
use Rattle.std.proofs.Common.{◌≡◌, ◌≢◌, ◌<◌, ◌≤◌, ◌+◌, ◌^◌, ℕ, false, List, ◌++◌, length, set, refl, sym, ◌∙◌, subst, arith, Some}
use Rattle.std.specs.Prelude.{slice_get}
use Rattle.std.proofs.lemmas.List.{length-set}
use Rattle.std.proofs.lemmas.Option.{slice_get_within}
use Rattle.frs_base.specs.Identifiers.{database_of}
use Rattle.frs_base.specs.Options.{In}
use Rattle.win_order.specs.declared.update.Update.{Update}
use Rattle.record_db.proofs.Standing.{stays_standing}
use Rattle.world_model.specs.World.{Member, World}
use Rattle.folder_core.specs.Machine.{Machine}
use Rattle.script_engine.specs.Scene.{Contents, Scene}
use Rattle.script_engine.specs.Sound.{IsSoundScene}
use Rattle.script_engine.specs.Standing.{AreOurs, HoldsContents, MachineStands, MachinesStand, recorded_in}
use Rattle.script_engine.proofs.Gives.{held_staged}
use Rattle.script_engine.proofs.Leading.{Leads, leads_sound}
use Rattle.script_engine.proofs.Pairs.{get_set_cases, sum_set}
use Rattle.script_engine.proofs.Passing.{Passes}

-- the member of the database went on, and its machine with it; all others stay
pub record Goes (w : World) (d : ℕ) (m new : Machine) (after : World) : Type 0 where
  pub passes : Passes d w after
  pub stands : MachineStands after.all (after.at d) d new
  pub beside : (j : ℕ) (x : Machine) → j ≢ d → MachineStands w.all (w.at j) j x → MachineStands after.all (after.at j) j x
  pub ours : AreOurs w.all → AreOurs after.all
  pub counted : length after.all + recorded_in m ≤ length w.all + recorded_in new

-- where All stays, the other members' machines stay
pub beside_same : (w new : World) (d : ℕ) → new.all ≡ w.all → Passes d w new → (j : ℕ) (x : Machine) → j ≢ d → MachineStands w.all (w.at j) j x → MachineStands new.all (new.at j) j x
beside_same w new d e p j x n s = subst (λ a. MachineStands a (new.at j) j x) (sym e) (subst (λ y. MachineStands w.all y j x) (p.others j n) s)

-- so they do where what is recorded isn't covered by them
pub machine_beside : (all more : List Update) (x : Member) (j : ℕ) (m : Machine) → ((u : Update) → In u more → x.known u.gvsn ≡ false) → MachineStands all x j m → MachineStands (all ++ more) x j m
machine_beside all more x j m fresh s = record {
  sound = s.sound;
  own = s.own;
  set = s.set;
  kind = s.kind;
  forms = s.forms;
  book = stays_standing all more x.known x.consumed x.phase s.forms m.book s.book fresh;
  staged = s.staged;
  volume = s.volume;
}

-- ---- all members

database_apart : (k j : ℕ) → j ≢ k → database_of (j + 1) ≢ database_of (k + 1)
database_apart k j n e = n (omega (arith, e))

-- a scene stays sound where a named member went on
pub scene_on : (s new : Scene) (k : ℕ) → IsSoundScene s → k < length s.names → Leads (database_of (k + 1)) s new → IsSoundScene new
scene_on s new k h within l = leads_sound (database_of (k + 1)) s new h l (λ j nobody. nobody k within)

-- machines that stand for a scene go on to, each event at one of them, with the contents that its member has staged then
pub machines_on : (machines : List Machine) (s : Scene) (k : ℕ) (m new : Machine) (after : World) (contents : Contents) → MachinesStand machines s → slice_get machines k ≡ Some m
    → Goes s.world (database_of (k + 1)) m new after → ((j : ℕ) → j ≢ database_of (k + 1) → contents j ≡ s.contents j) → HoldsContents (contents (database_of (k + 1))) new → new.volume.next_usn < 2 ^ 64
    → MachinesStand (set machines k new) (record s { world = after; contents = contents })
machines_on machines s k m new after contents h at g beside holds usns = record {
  many = length-set machines k new ∙ h.many;
  each = λ j x found. get_set_cases (λ z. MachineStands after.all (after.at (database_of (j + 1))) (database_of (j + 1)) z) machines k j m new x at found (λ e. subst (λ i. MachineStands after.all (after.at (database_of (i + 1))) (database_of (i + 1)) new) (sym e) g.stands) (λ n e. g.beside (database_of (j + 1)) x (database_apart k j n) (h.each j x e));
  contents = λ j x found. get_set_cases (λ z. HoldsContents (contents (database_of (j + 1))) z) machines k j m new x at found (λ e. subst (λ i. HoldsContents (contents (database_of (i + 1))) new) (sym e) holds) (λ n e. subst (λ c. HoldsContents c x) (sym (beside (database_of (j + 1)) (database_apart k j n))) (h.contents j x e));
  ours = g.ours h.ours;
  usns = λ j x found. get_set_cases (λ (z : Machine). z.volume.next_usn < 2 ^ 64) machines k j m new x at found (λ e. usns) (λ n e. h.usns j x e);
  counted = let sums = sum_set recorded_in machines k m new at in
      let more = g.counted in
      let had = h.counted in
      omega (arith, sums, more, had);
  scene = scene_on s (record s { world = after; contents = contents }) k h.scene (let within = slice_get_within machines k m at in let many = h.many in omega (arith, within, many)) (record {
    names = refl;
    passes = g.passes;
    staged = λ old. held_staged after.all (after.at (database_of (k + 1))) (database_of (k + 1)) (contents (database_of (k + 1))) new g.stands holds;
    beside = beside;
  });
}
