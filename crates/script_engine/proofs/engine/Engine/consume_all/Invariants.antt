use Rattle.std.proofs.Common.{◌≡◌, ◌<◌, ◌+◌, List, length}
use Rattle.frs_base.specs.Identifiers.{database_of}
use Rattle.world_model.specs.World.{World}
use Rattle.script_engine.specs.declared.consumed.Consumed.{Consumed}
use Rattle.script_engine.specs.Begun.{ConsumesSome}
use Rattle.script_engine.specs.Engines.{HasScene, Stands, last_of, local_by_all, unconsumed_by_all}
use Rattle.script_engine.specs.Scene.{Scene, in_world}
use Rattle.script_engine.proofs.engine.Engine.consume_all.Given as goal

-- some were consumed, the last of which is this one
abbrev pub invariant-loop-consumed : goal.invariant-loop-consumed
invariant-loop-consumed l = record {
  within : l.at < length l.self.folders.items;
  scene : HasScene l.self;
  names : l.self.names ≡ l.fn.self.names;
  made : local_by_all l.self ≡ local_by_all l.fn.self;
  ran : (s : Scene) → Stands l.fn.self s → (w : World) × (done : List Consumed) × ConsumesSome s.world (database_of (l.at + 1)) l.moment done w × (last_of done ≡ l.last) × Stands l.self (in_world s w);
}

-- what is left of the journals
abbrev pub decreases-loop-consumed : goal.decreases-loop-consumed
decreases-loop-consumed l = unconsumed_by_all l.self
