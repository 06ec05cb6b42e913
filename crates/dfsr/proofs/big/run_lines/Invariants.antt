use Rattle.std.proofs.Common.{◌≤◌, ◌+◌, take}
use Rattle.std.specs.Prelude.{string_bytes}
use Rattle.script_engine.specs.Engines.{local_by_all}
use Rattle.dfsr.specs.Leading.{Leads}
use Rattle.dfsr.proofs.big.run_lines.Given as goal

-- the lines so far printed the text so far, and led the engine on
abbrev pub invariant-loop-line : goal.invariant-loop-line
invariant-loop-line l = record {
  within : local_by_all l.engine ≤ local_by_all l.fn.engine + l.line-index;
  leads : Leads l.fn.engine (take l.line-index l.lines) (string_bytes l.printed) l.engine;
}
