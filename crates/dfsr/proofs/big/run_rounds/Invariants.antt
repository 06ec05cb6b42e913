use Rattle.std.proofs.Common.{◌≤◌, ◌+◌, ◌*◌}
use Rattle.script_engine.specs.Engines.{local_by_all}
use Rattle.dfsr.specs.Big.{rounds}
use Rattle.dfsr.specs.Leading.{LeadsOn}
use Rattle.dfsr.proofs.big.run_rounds.Given as goal

-- the rounds so far led the engine on
abbrev pub invariant-loop : goal.invariant-loop
invariant-loop l = record {
  within : local_by_all l.engine ≤ local_by_all l.fn.engine + 9 * l.counter;
  leads : LeadsOn l.fn.engine (rounds l.counter) l.engine;
}
