-- What a drain leaves of a sound world, that it ends, and that it is one.
use Rattle.std.proofs.Common.{◌≡◌, ◌<◌, ◌≤◌, ◌+◌, ◌*◌, ◌-◌, ℕ, zero, suc, List, [], ◌∷◌, ◌++◌, length, refl, sym, ap, ◌∙◌, subst, arith, inl, inr, Option, Some, None, Result, Ok, Err}
use Rattle.std.specs.Prelude.{map}
use Rattle.std.proofs.lemmas.List.{length-append, length-map}
use Rattle.frs_base.specs.Options.{In}
use Rattle.frs_base.specs.declared.sum.Sum.{Sum}
use Rattle.frs_base.specs.declared.version.Uid.{Uid}
use Rattle.win_order.specs.declared.update.Update.{Update}
use Rattle.name_rules.specs.Next.{IsQuiet}
use Rattle.name_rules.specs.declared.step.Step.{Step as InstallStep}
use Rattle.world_model.specs.World.{World}
use Rattle.world_model.specs.Invariant.{Invariant}
use Rattle.world_model.specs.Laws.{AreDone, HasAll}
use Rattle.world_model.proofs.Ending.{drains_end}
use Rattle.world_model.proofs.Installed.{no_pending}
use Rattle.world_model.proofs.Next.{in_uids}
use Rattle.script_engine.specs.Sound.{AreStaged, IsSoundScene, IsSoundWorld}
use Rattle.script_engine.specs.Scene.{Scene, in_world}
use Rattle.script_engine.specs.declared.refusal.Refusal.{Refusal}
use Rattle.script_engine.specs.Installing.{Drains, Installs, InstallsSome, end_of}
use Rattle.script_engine.proofs.Passing.{Passes, passes_refl, passes_trans}
use Rattle.script_engine.proofs.Installed.{SomeInstall, installs_pass, installs_stage, outcome_one, outcome_some, step_done}

-- ---- a sound world

pub some_passes : (s : Scene) (d : ℕ) (steps : List InstallStep) (new : World) → IsSoundWorld s.world → InstallsSome s d steps new → Passes d s.world new
some_passes s d [] new h is = subst (Passes d s.world) (sym is) (passes_refl d s.world h)
some_passes s d (step ∷ steps) new h (mid, first, rest) =
    let p = installs_pass s d (Ok (Some step)) mid h first in passes_trans d s.world mid new p (some_passes (in_world s mid) d steps new p.sound rest)

pub drains_pass : (s : Scene) (d : ℕ) (steps : List InstallStep) (why : Option Refusal) (new : World) → IsSoundWorld s.world → Drains s d steps why new → Passes d s.world new
drains_pass s d [] why new h end = installs_pass s d (end_of why) new h end
drains_pass s d (step ∷ steps) why new h (mid, first, rest) =
    let p = installs_pass s d (Ok (Some step)) mid h first in passes_trans d s.world mid new p (drains_pass (in_world s mid) d steps why new p.sound rest)

-- ---- what is staged

pub some_stages : (s : Scene) (d : ℕ) (steps : List InstallStep) (new : World) → IsSoundWorld s.world → InstallsSome s d steps new
    → (uid : Uid) (sum : Sum) → (new.at d).staged uid ≡ Some sum → (s.world.at d).staged uid ≡ Some sum
some_stages s d [] new h is uid sum e = ap (λ (z : World). (z.at d).staged uid) (sym is) ∙ e
some_stages s d (step ∷ steps) new h (mid, first, rest) uid sum e =
    let p = installs_pass s d (Ok (Some step)) mid h first in installs_stage s d (Ok (Some step)) mid h first uid sum (some_stages (in_world s mid) d steps new p.sound rest uid sum e)

pub drains_stage : (s : Scene) (d : ℕ) (steps : List InstallStep) (why : Option Refusal) (new : World) → IsSoundWorld s.world → Drains s d steps why new
    → (uid : Uid) (sum : Sum) → (new.at d).staged uid ≡ Some sum → (s.world.at d).staged uid ≡ Some sum
drains_stage s d [] why new h end uid sum e = installs_stage s d (end_of why) new h end uid sum e
drains_stage s d (step ∷ steps) why new h (mid, first, rest) uid sum e =
    let p = installs_pass s d (Ok (Some step)) mid h first in installs_stage s d (Ok (Some step)) mid h first uid sum (drains_stage (in_world s mid) d steps why new p.sound rest uid sum e)

-- ---- one step more

pub one_more : (s : Scene) (d : ℕ) (steps : List InstallStep) (mid : World) (step : InstallStep) (new : World) → InstallsSome s d steps mid → Installs (in_world s mid) d (Ok (Some step)) new
    → InstallsSome s d (steps ++ step ∷ []) new
one_more s d [] mid step new is one = (new, subst (λ w. Installs (in_world s w) d (Ok (Some step)) new) is one, refl)
one_more s d (first ∷ steps) mid step new (next, begun, some) one = (next, begun, one_more (in_world s next) d steps mid step new some one)

pub at_end : (s : Scene) (d : ℕ) (steps : List InstallStep) (mid : World) (why : Option Refusal) (new : World) → InstallsSome s d steps mid → Installs (in_world s mid) d (end_of why) new → Drains s d steps why new
at_end s d [] mid why new is end = subst (λ w. Installs (in_world s w) d (end_of why) new) is end
at_end s d (first ∷ steps) mid why new (next, begun, some) end = (next, begun, at_end (in_world s next) d steps mid why new some end)

-- ---- steps of the world

pub some_done : (s : Scene) (d : ℕ) (steps : List InstallStep) (new : World) → InstallsSome s d steps new → AreDone s.world d steps new
some_done s d [] new is = is
some_done s d (step ∷ steps) new (mid, first, rest) = (mid, step_done s d step mid first, some_done (in_world s mid) d steps new rest)

-- ---- how many

-- the files of all that was recorded
abbrev files_of : World → List Uid
files_of w = map (λ u. u.uid) w.all

-- where no local record is pending, each object has a record
all_files : (w : World) (d : ℕ) → Invariant w → IsQuiet (w.at d).consumed (w.at d).volume → HasAll w d (files_of w)
all_files w d h quiet = record {
  records = λ u r. in_uids u w.all r.among.0;
  objects = λ fid o at. elim ((h.members d).objects.recorded fid o at) [
    | inl pending ↦ absurd (no_pending (w.at d) _ quiet pending)
    | inr (u, r, same) ↦ subst (λ i. In i (files_of w)) same (in_uids u w.all r.among.0)
  ];
}

-- so many steps are done at most: eight for each update, and one for each journal record that is left
abbrev most : World → ℕ → ℕ
most w d = 8 * length w.all + ((w.at d).volume.next_usn - (w.at d).consumed)

-- no more steps are done than so many
abbrev AreAtMost : ℕ → Scene → ℕ → Type 0
AreAtMost n s d = (steps : List InstallStep) (new : World) → InstallsSome s d steps new → length steps ≤ n

at_most : (s : Scene) (d : ℕ) → Invariant s.world → AreAtMost (most s.world d) s d
at_most s d h [] new is = omega arith
at_most s d h (step ∷ steps) new (mid, first, rest) =
    let few = drains_end s.world h d (files_of s.world) (all_files s.world d h first.0.0) (step ∷ steps) new (some_done s d (step ∷ steps) new (mid, first, rest)) in
    omega (arith, few, length-map s.world.all (λ (u : Update). u.uid))

pub some_bound : (s : Scene) (d : ℕ) (steps : List InstallStep) (new : World) → IsSoundScene s → InstallsSome s d steps new → (next : InstallStep) (last : World) → Installs (in_world s new) d (Ok (Some next)) last
    → length steps < 8 * length s.world.all + ((s.world.at d).volume.next_usn - (s.world.at d).consumed)
some_bound s d steps new h some next last one =
    let few = at_most s d h.world.invariant (steps ++ next ∷ []) last (one_more s d steps new next last some one) in
    omega (arith, few, length-append steps (next ∷ []))

-- ---- it is one

end_one : (a b : Option Refusal) → end_of a ≡ end_of b → a ≡ b
end_one None None e = refl
end_one None (Some why) e = absurd (cc)
end_one (Some why) None e = absurd (cc)
end_one (Some why) (Some other) e = cc

end_not : (why : Option Refusal) (step : InstallStep) → end_of why ≡ Ok (Some step) → ⊥
end_not None step e = cc
end_not (Some why) step e = cc

-- a step was done
abbrev did : InstallStep → Result (Option InstallStep) Refusal
did step = Ok (Some step)

step_is : (a b : InstallStep) → did a ≡ did b → a ≡ b
step_is a b e = cc

-- of a sound world, whatever is staged
drain_one : (s : Scene) (d : ℕ) (a b : List InstallStep) (why other : Option Refusal) (m n : World) → IsSoundWorld s.world → Drains s d a why m → Drains s d b other n → (a ≡ b) × (why ≡ other) × (m ≡ n)
drain_one s d [] [] why other m n h p q = let (same, world) = outcome_one s d (end_of why) (end_of other) m n h p q in (refl, end_one why other same, world)
drain_one s d [] (step ∷ b) why other m n h p (mid, first, rest) = absurd (end_not why step (outcome_one s d (end_of why) (Ok (Some step)) m mid h p first).0)
drain_one s d (step ∷ a) [] why other m n h (mid, first, rest) q = absurd (end_not other step (sym (outcome_one s d (Ok (Some step)) (end_of other) mid n h first q).0))
drain_one s d (step ∷ a) (next ∷ b) why other m n h (mid, first, rest) (mid', first', rest') =
    let (same, world) = outcome_one s d (Ok (Some step)) (Ok (Some next)) mid mid' h first first' in
    let p = installs_pass s d (Ok (Some step)) mid h first in
    let (steps, refusal, last) = drain_one (in_world s mid) d a b why other m n p.sound rest (subst (λ w. Drains (in_world s w) d b other n) (sym world) rest') in
    ((λ i. step_is step next same i ∷ steps i), refusal, last)

-- a drain is one
pub drains_one : (s : Scene) (d : ℕ) (a b : List InstallStep) (why other : Option Refusal) (m n : World) → IsSoundScene s → Drains s d a why m → Drains s d b other n → (a ≡ b) × (why ≡ other) × (m ≡ n)
drains_one s d a b why other m n h p q = drain_one s d a b why other m n h.world p q

-- ---- it ends

-- something comes of a drain
abbrev SomeDrain : Scene → ℕ → Type 0
SomeDrain s d = (steps : List InstallStep) × (why : Option Refusal) × (new : World) × Drains s d steps why new

-- where something comes of it after the next step
drain_by : (s : Scene) (d : ℕ) → IsSoundWorld s.world → AreStaged (s.world.at d) (s.contents d) → ((step : InstallStep) (mid : World) → Installs s d (Ok (Some step)) mid → SomeDrain (in_world s mid) d) → SomeDrain s d
drain_by s d h staged more = by (outcome_some s d h staged)
  where
    by : SomeInstall s d → SomeDrain s d
    by (Ok None, new, end) = ([], None, new, end)
    by (Err why, new, end) = ([], Some why, new, end)
    by (Ok (Some step), mid, one) = let (steps, why, new, drain) = more step mid one in (step ∷ steps, why, new, (mid, one, drain))

-- where no more steps are done than so many
drain_some : (n : ℕ) (s : Scene) (d : ℕ) → IsSoundWorld s.world → AreStaged (s.world.at d) (s.contents d) → AreAtMost n s d → SomeDrain s d
drain_some zero s d h staged few = drain_by s d h staged (λ step mid one. let none : length (step ∷ []) ≤ 0 = few (step ∷ []) mid (mid, one, refl) in absurd (omega (arith, none)))
drain_some (suc n) s d h staged few = drain_by s d h staged (λ step mid one.
    drain_some n (in_world s mid) d (installs_pass s d (Ok (Some step)) mid h one).sound (λ uid sum e. staged uid sum (installs_stage s d (Ok (Some step)) mid h one uid sum e))
    (λ rest last some. let short : length (step ∷ rest) ≤ suc n = few (step ∷ rest) last (mid, one, some) in omega (arith, short)))

-- something comes of a drain
pub drains_some : (s : Scene) (d : ℕ) → IsSoundScene s → (steps : List InstallStep) × (why : Option Refusal) × (new : World) × Drains s d steps why new
drains_some s d h = drain_some (most s.world d) s d h.world (h.staged d) (at_most s d h.world.invariant)
