use Rattle.std.proofs.Common.{◌≡◌, ◌≤◌, ◌+◌, length}
use Rattle.frs_base.specs.Identifiers.{database_of}
use Rattle.world_model.specs.World.{World}
use Rattle.script_engine.specs.Engines.{Stands, local_by_all}
use Rattle.script_engine.specs.Histories.{Adopted}
use Rattle.script_engine.specs.Pulls.{ArePages}
use Rattle.script_engine.specs.Scene.{Scene, in_world}
use Rattle.script_engine.proofs.Paging.{PagesSo}
use Rattle.script_engine.proofs.engine.Engine.take_pages.Given as goal

-- the first of the updates were treated
abbrev pub invariant-loop-update : goal.invariant-loop-update
invariant-loop-update l = record {
  many : length l.self.folders.items ≡ length l.fn.self.folders.items;
  made : local_by_all l.self ≡ local_by_all l.fn.self;
  few : l.taken ≤ l.update-index;
  adopted : Adopted l.at l.from l.entry l.taken l.fn.self l.self;
  ran : (s : Scene) → Stands l.fn.self s → ArePages s.world l.from l.page
      → (w : World) × PagesSo s.world (database_of (l.at + 1)) l.from l.page l.update-index w l.listed.items l.taken × Stands l.self (in_world s w);
}
