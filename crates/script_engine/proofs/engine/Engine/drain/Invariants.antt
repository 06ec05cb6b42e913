use Rattle.std.proofs.Common.{◌≡◌, ◌<◌, ◌+◌, ◌-◌, ◌*◌, List, length}
use Rattle.frs_base.specs.Identifiers.{database_of}
use Rattle.name_rules.specs.declared.step.Step.{Step}
use Rattle.world_model.specs.World.{World}
use Rattle.script_engine.specs.Engines.{HasScene, Stands, local_by_all, unconsumed_by_all}
use Rattle.script_engine.specs.Installing.{InstallsSome}
use Rattle.script_engine.specs.Scene.{Scene, in_world}
use Rattle.script_engine.proofs.engine.Engine.drain.Given as goal

-- so many steps were done
abbrev pub invariant-loop-steps : goal.invariant-loop-steps
invariant-loop-steps l = record {
  within : l.at < length l.self.folders.items;
  scene : HasScene l.self;
  names : l.self.names ≡ l.fn.self.names;
  many : length l.self.folders.items ≡ length l.fn.self.folders.items;
  made : local_by_all l.self ≡ local_by_all l.fn.self;
  ran : (s : Scene) → Stands l.fn.self s → (w : World) × (steps : List Step) × InstallsSome s (database_of (l.at + 1)) steps w × (length steps ≡ l.steps) × Stands l.self (in_world s w);
}

-- at most eight for each local record, and one for each journal record that is left
abbrev pub decreases-loop-steps : goal.decreases-loop-steps
decreases-loop-steps l = (8 * local_by_all l.fn.self + unconsumed_by_all l.fn.self) - l.steps
