use Rattle.std.proofs.Common.{◌≡◌, ◌≤◌, ◌+◌, length}
use Rattle.frs_base.specs.Identifiers.{database_of}
use Rattle.script_engine.specs.Engines.{Stands, local_by_all}
use Rattle.script_engine.specs.Histories.{Fetches}
use Rattle.script_engine.specs.Pulls.{AreCovered}
use Rattle.script_engine.specs.Scene.{Scene}
use Rattle.script_engine.proofs.Paging.{FilesSo}
use Rattle.script_engine.proofs.engine.Engine.take_files.Given as goal

-- the first of the files were treated
abbrev pub invariant-loop-file : goal.invariant-loop-file
invariant-loop-file l = record {
  many : length l.self.folders.items ≡ length l.fn.self.folders.items;
  made : local_by_all l.self ≡ local_by_all l.fn.self;
  few : l.taken ≤ l.file-index;
  fetched : Fetches l.at l.from (database_of (l.from + 1)) l.taken l.fn.self l.self;
  server : l.server ≡ database_of (l.from + 1);
  ran : (s : Scene) → Stands l.fn.self s → AreCovered s.world (database_of (l.from + 1)) l.files
      → (t : Scene) × FilesSo s (database_of (l.at + 1)) (database_of (l.from + 1)) l.files l.file-index t l.taken × Stands l.self t;
}
