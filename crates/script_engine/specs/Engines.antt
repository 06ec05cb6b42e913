-- Which scene an engine stands for, and what one event at a member makes of it.
use Rattle.std.specs.Prelude.{◌≡◌, ◌<◌, ◌≤◌, ◌+◌, ◌^◌, ℕ, List, [], ◌∷◌, Option, Some, None, MatchOption, Result, Ok, Err, length, map, option_to_list, slice_get, slice_set, sum_by}
use Rattle.frs_base.specs.Identifiers.{database_of}
use Rattle.vol_state.specs.declared.command.VolCmd.{VolCmd}
use Rattle.vol_state.specs.declared.operation.LocalOp.{LocalOp}
use Rattle.vol_state.specs.declared.operation.Refused.{Refused}
use Rattle.vol_state.specs.Ways.{Resolves}
use Rattle.name_rules.specs.declared.step.Step.{Step}
use Rattle.world_model.specs.World.{World}
use Rattle.world_model.specs.Events.{Step as WorldStep, Local as LocalEvent}
use Rattle.folder_core.specs.declared.event.Event.{Event}
use Rattle.folder_core.specs.declared.reply.Reply.{Reply}
use Rattle.folder_core.specs.Machine.{Machine}
use Rattle.folder_core.specs.Answers.{Answers}
use Rattle.folder_core.specs.Sound.{IsSound as IsSoundMachine}
use Rattle.script_engine.specs.declared.consumed.Consumed.{Consumed}
use Rattle.script_engine.specs.declared.engine.Engine.{Engine}
use Rattle.script_engine.specs.declared.refusal.Refusal.{Refusal}
use Rattle.script_engine.specs.declared.refusal.Refusal.TheVariants.{Unknown}
use Rattle.script_engine.specs.Consuming.{ConsumesAll, ConsumesNext}
use Rattle.script_engine.specs.Installing.{Drains}
use Rattle.script_engine.specs.Named.{AreNamed}
use Rattle.script_engine.specs.Scene.{Scene, members_of, place_of}
use Rattle.script_engine.specs.Text.{IsRefused}
use Rattle.script_engine.specs.Standing.{MachinesStand, local_in, unconsumed_in}

-- the members' machines
abbrev pub machines_of : Engine → List Machine
machines_of e = map (λ f. f.machine) e.folders.items

-- its names and machines are those of the scene's members, in order
pub record Stands (e : Engine) (s : Scene) : Type 0 where
  pub names : e.names.items ≡ members_of s
  pub formed : AreNamed e.names.items
  pub machines : MachinesStand (machines_of e) s

-- it stands for one
abbrev pub HasScene : Engine → Type 0
HasScene e = (s : Scene) × Stands e s

-- ---- bounds

-- how many local records the members' journals have
abbrev pub local_by_all : Engine → ℕ
local_by_all e = sum_by local_in (machines_of e)

-- how many journal records, local or not, the members haven't consumed
abbrev pub unconsumed_by_all : Engine → ℕ
unconsumed_by_all e = sum_by unconsumed_in (machines_of e)

-- after n lines there are so few local records
abbrev pub IsWithin : ℕ → Engine → Type 0
IsWithin n e = local_by_all e ≤ n

-- one line more is counted without overflow
abbrev pub HasRoom : Engine → Type 0
HasRoom e = local_by_all e + 1 < 2 ^ 60

-- ---- one event

-- the member at this place answered the event so
pub record Answered (at : ℕ) (event : Event) (reply : Reply) (old new : Engine) : Type 0 where
  pub place : ℕ
  pub before : Machine
  pub after : Machine
  pub found : slice_get (machines_of old) at ≡ Some before
  pub answers : Answers place before event reply after
  pub sound : IsSoundMachine after
  pub usns : after.volume.next_usn < 2 ^ 64
  pub machines : machines_of new ≡ slice_set (machines_of old) at after

-- a local operation is done and got this USN, or is refused
abbrev pub Operated : World → ℕ → LocalOp → Result ℕ Refused → World → Type 0
Operated w d operation (Ok usn) new = (cmd : VolCmd) × Resolves (w.at d).volume operation (Ok cmd) × WorldStep w d (LocalEvent cmd) new × (usn ≡ (w.at d).volume.next_usn)
Operated w d operation (Err why) new = Resolves (w.at d).volume operation (Err why) × (new ≡ w)

-- the next journal record is consumed, or there is none, or it is refused
abbrev pub ConsumedNext : World → ℕ → ℕ → Result (Option Consumed) Refusal → World → Type 0
ConsumedNext w d moment (Ok consumed) new = ConsumesNext w d moment (option_to_list consumed) None new
ConsumedNext w d moment (Err why) new = ConsumesNext w d moment [] (Some why) new

-- how many journal records were consumed
abbrev pub count_of : Result (Option Consumed) Refusal → ℕ
count_of (Ok None) = 0
count_of (Ok (Some consumed)) = 1
count_of (Err why) = 0

-- ---- several

-- the last of consumed records
abbrev pub last_of : List Consumed → Option Consumed
last_of [] = None
last_of (c ∷ []) = Some c
last_of (c ∷ more ∷ rest) = last_of (more ∷ rest)

-- records are consumed until none is left, and the last of them is this one, or one is refused
abbrev pub ConsumedAll : World → ℕ → ℕ → Result (Option Consumed) Refusal → World → Type 0
ConsumedAll w d moment (Ok last) new = (done : List Consumed) × ConsumesAll w d moment done None new × (last_of done ≡ last)
ConsumedAll w d moment (Err why) new = (done : List Consumed) × ConsumesAll w d moment done (Some why) new

-- steps of the installer are done until none is left, so many, or one is refused
abbrev pub DrainedBy : Scene → ℕ → Result ℕ Refusal → World → Type 0
DrainedBy s d (Ok many) new = (steps : List Step) × Drains s d steps None new × (length steps ≡ many)
DrainedBy s d (Err why) new = (steps : List Step) × Drains s d steps (Some why) new

-- ---- lines

-- a line at a member: without the member it is refused, else this comes of it
abbrev pub AtNamed : Scene → List ℕ → (ℕ → List ℕ → Scene → Type 0) → List ℕ → Scene → Type 0
AtNamed s name Comes text new = MatchOption (place_of s.names name) (IsRefused s (Unknown name) text new) (λ k. Comes (database_of (k + 1)) text new)
