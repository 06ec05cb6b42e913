-- A step of the installer at a member, and a drain.
use Rattle.std.specs.Prelude.{◌≡◌, ℕ, List, [], ◌∷◌, Option, Some, None, Result, Ok, Err}
use Rattle.frs_base.specs.declared.sum.Sum.{Sum}
use Rattle.frs_base.specs.declared.version.Uid.{Uid}
use Rattle.vol_state.specs.declared.object.Object.{Object}
use Rattle.vol_state.specs.declared.command.VolCmd.{VolCmd}
use Rattle.vol_state.specs.declared.command.VolCmd.TheVariants.{Make, Rewrite}
use Rattle.vol_state.specs.State.{uid_of}
use Rattle.vol_state.specs.Tables.{IsAt}
use Rattle.name_rules.specs.Next.{IsStepOf}
use Rattle.name_rules.specs.declared.step.Next.TheVariants as next
use Rattle.name_rules.specs.declared.step.Step.{Step as InstallStep}
use Rattle.name_rules.specs.declared.step.Step.TheVariants.{Skip, Unstage}
use Rattle.world_model.specs.World.{World, IsRecordOf}
use Rattle.world_model.specs.Events.{Step, Install, Unstage as UnstageEvent}
use Rattle.world_model.specs.Laws.{IsAnswerAt}
use Rattle.script_engine.specs.declared.consumed.Consumed.TheVariants.{Skipped}
use Rattle.script_engine.specs.declared.refusal.Refusal.{Refusal}
use Rattle.script_engine.specs.declared.refusal.Refusal.TheVariants.{NotYet, VectorFull}
use Rattle.script_engine.specs.Consuming.{ConsumesOne, widened}
use Rattle.script_engine.specs.Scene.{Scene, in_world}
use Rattle.script_engine.specs.Widening.{Exceeds}

-- these contents where a sum is staged, none where nothing is
abbrev pub contents_if : Option Sum → List ℕ → List ℕ
contents_if None bytes = []
contents_if (Some sum) bytes = bytes

-- the contents that are staged of a file
abbrev pub staged_contents : Scene → ℕ → Uid → List ℕ
staged_contents s d uid = contents_if ((s.world.at d).staged uid) (s.contents d uid)

-- an operation that gives a file contents gives those that are staged of it
abbrev pub GivesStaged : Scene → ℕ → VolCmd → Type 0
GivesStaged s d (Make uid kind bytes) = bytes ≡ staged_contents s d uid
GivesStaged s d (Rewrite fid bytes) = (o : Object) × IsAt (s.world.at d).volume fid o × (bytes ≡ staged_contents s d (uid_of d o))
GivesStaged s d op = Unit {0}

-- the operation of a step is done
abbrev pub OperatesStep : Scene → ℕ → InstallStep → World → Type 0
OperatesStep s d step new = (op : VolCmd) × IsStepOf (IsRecordOf s.world d) d (s.world.at d).volume step op × GivesStaged s d op × Step s.world d (Install op) new

-- a step is done: by its operation, but what is staged goes, and a journal record is passed as it is consumed
abbrev pub DoesStep : Scene → ℕ → InstallStep → World → Type 0
DoesStep s d (Unstage uid) new = Step s.world d (UnstageEvent uid) new
DoesStep s d (Skip usn) new = ConsumesOne s.world d 0 (Skipped usn) new
DoesStep s d step new = OperatesStep s d step new

-- no step is done: a local record is pending, or the vector would have so many intervals by the record that is passed
abbrev pub IsStopped : World → ℕ → Refusal → Type 0
IsStopped w d (NotYet usn) = IsAnswerAt w d (next.NotYet usn)
IsStopped w d (VectorFull count) = (usn : ℕ) × IsAnswerAt w d (next.Do (Skip usn)) × Exceeds (widened w d) count
IsStopped w d other = ⊥

-- the next step is done, or none is left, or it is refused
abbrev pub Installs : Scene → ℕ → Result (Option InstallStep) Refusal → World → Type 0
Installs s d (Ok None) new = IsAnswerAt s.world d next.Drained × (new ≡ s.world)
Installs s d (Ok (Some step)) new = IsAnswerAt s.world d (next.Do step) × DoesStep s d step new
Installs s d (Err why) new = IsStopped s.world d why × (new ≡ s.world)

-- how it ends: none is left, or one is refused
abbrev pub end_of : Option Refusal → Result (Option InstallStep) Refusal
end_of None = Ok None
end_of (Some why) = Err why

-- steps are done, one after the other, until none is left or one is refused
abbrev pub Drains : Scene → ℕ → List InstallStep → Option Refusal → World → Type 0
Drains s d [] why new = Installs s d (end_of why) new
Drains s d (step ∷ steps) why new = (mid : World) × Installs s d (Ok (Some step)) mid × Drains (in_world s mid) d steps why new

-- the first of them
abbrev pub InstallsSome : Scene → ℕ → List InstallStep → World → Type 0
InstallsSome s d [] new = new ≡ s.world
InstallsSome s d (step ∷ steps) new = (mid : World) × Installs s d (Ok (Some step)) mid × InstallsSome (in_world s mid) d steps new
