-- When members print the same trees, and what a drain leaves.
use Rattle.std.specs.Prelude.{◌≡◌, ◌⊎◌, ◌↔◌, ◌<◌, ◌≤◌, ℕ, true, All, List, Option, None, length}
use Rattle.frs_base.specs.declared.kind.Kind.TheVariants.{File}
use Rattle.frs_base.specs.declared.version.Gvsn.{Gvsn}
use Rattle.win_order.specs.declared.update.Update.{Update}
use Rattle.vol_state.specs.declared.object.Object.{Object}
use Rattle.vol_state.specs.Maps.{Maps, fresh_maps}
use Rattle.vol_state.specs.Tables.{IsAt}
use Rattle.name_rules.specs.declared.step.Step.{Step as InstallStep}
use Rattle.script_lang.specs.Grammar.{IsLine}
use Rattle.script_lang.specs.declared.line.Line.{Line}
use Rattle.world_model.specs.World.{World, IsRecordOf}
use Rattle.world_model.specs.Laws.{IsDrainedAt, Same}
use Rattle.script_engine.specs.declared.refusal.Refusal.{Refusal}
use Rattle.script_engine.specs.Scene.{Scene, in_world}
use Rattle.script_engine.specs.Sound.{IsSoundScene}
use Rattle.script_engine.specs.Installing.{Drains}
use Rattle.script_engine.specs.Text.{PrintsSums, PrintsTree, Run}

-- ---- equal trees

-- files of one sum in two volumes have one length; members compare contents by their sums alone, and a tree prints lengths
abbrev pub AreAlike : Maps → Maps → Type 0
AreAlike m n = (f g : ℕ) (o q : Object) → IsAt m f o → IsAt n g q → o.kind ≡ File → q.kind ≡ File → o.sum ≡ q.sum → length o.bytes ≡ length q.bytes

-- a volume with nothing in it is alike to each
abbrev pub FreshVolumesAreAlike : Type 0
FreshVolumesAreAlike = (m : Maps) → AreAlike fresh_maps m

-- two members print the same sums; and the same tree, where files of one sum have one length
abbrev pub PrintAlike : Scene → ℕ → Scene → ℕ → Type 0
PrintAlike s i new j = ((a b : List ℕ) → PrintsSums s i a → PrintsSums new j b → a ≡ b)
    × (AreAlike (s.world.at i).volume (new.world.at j).volume → (a b : List ℕ) → PrintsTree s i a → PrintsTree new j b → a ≡ b)

-- drained members that cover the same versions, at one moment of a run or at two, print alike
abbrev pub EqualTrees : Type 0
EqualTrees = (s : Scene) (more : List Line) (said : List ℕ) (new : Scene) → IsSoundScene s → All IsLine more → Run s more said new
    → (i j : ℕ) → Same (s.world.at i).known (new.world.at j).known → IsDrainedAt s.world i → IsDrainedAt new.world j → PrintAlike s i new j

-- so do drained members that have the same records, in whatever scenes they are
abbrev pub EqualRecordsPrintAlike : Type 0
EqualRecordsPrintAlike = (s new : Scene) → IsSoundScene s → IsSoundScene new
    → (i j : ℕ) → ((u : Update) → IsRecordOf s.world i u ↔ IsRecordOf new.world j u) → IsDrainedAt s.world i → IsDrainedAt new.world j → PrintAlike s i new j

-- ---- drains

-- a member whose drain isn't refused is drained
abbrev pub DrainsLeaveDrained : Type 0
DrainsLeaveDrained = (s : Scene) (d : ℕ) (steps : List InstallStep) (new : World) → Drains s d steps None new → IsDrainedAt new d

-- the version is that of a journal record which the member consumed between these worlds
abbrev pub IsPassedAt : World → ℕ → World → Gvsn → Type 0
IsPassedAt w d new g = (g.db ≡ d) × ((w.at d).consumed ≤ g.version) × (g.version < (new.at d).consumed)

-- by a drain a member comes to cover the journal records that it consumes in it, and nothing else
abbrev pub DrainsCoverTheirOwn : Type 0
DrainsCoverTheirOwn = (s : Scene) (d : ℕ) (steps : List InstallStep) (why : Option Refusal) (new : World) → IsSoundScene s → Drains s d steps why new
    → (g : Gvsn) → (new.at d).known g ≡ true ↔ (((s.world.at d).known g ≡ true) ⊎ IsPassedAt s.world d new g)

-- it leaves every member the records that it had
abbrev pub DrainsKeepRecords : Type 0
DrainsKeepRecords = (s : Scene) (d : ℕ) (steps : List InstallStep) (why : Option Refusal) (new : World) → IsSoundScene s → Drains s d steps why new
    → (j : ℕ) (u : Update) → IsRecordOf s.world j u ↔ IsRecordOf new j u

-- so members that cover the same versions print alike once each was drained
abbrev pub DrainedPairsPrintAlike : Type 0
DrainedPairsPrintAlike = (s : Scene) (i j : ℕ) (first second : List InstallStep) (mid new : World) → IsSoundScene s → Same (s.world.at i).known (s.world.at j).known
    → Drains s i first None mid → Drains (in_world s mid) j second None new → PrintAlike (in_world s new) i (in_world s new) j
