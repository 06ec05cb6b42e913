use Rattle.std.proofs.Common.{◌≡◌, ◌≤◌, ℕ, List, ◌++◌, take}
use Rattle.std.specs.Prelude.{string_bytes}
use Rattle.frs_io.specs.Told.{Takes}
use Rattle.script_engine.specs.Scene.{Scene, fresh_scene}
use Rattle.script_engine.specs.Engines.{IsWithin, Stands}
use Rattle.script_engine.specs.Text.{Run}
use Rattle.dfsr.proofs.script.run_lines.Given as goal

-- the lines so far printed what was written and what is pending, and led to the engine's world
abbrev pub invariant-loop-line : goal.invariant-loop-line
invariant-loop-line g l = record {
  within : IsWithin l.line-index l.engine;
  later : g.K.Sink.faults l.fn.out ≤ g.K.Sink.faults l.out;
  ran : (said : List ℕ) × (s : Scene) × (front : List ℕ) × Run fresh_scene (take l.line-index l.lines) said s × Stands l.engine s
      × Takes (g.K.Sink.taken l.fn.out) (g.K.Sink.taken l.out) front × (said ≡ front ++ string_bytes l.pending);
}
