use Rattle.std.proofs.Common.{◌≡◌, ◌≤◌, ◌+◌, ◌*◌}
use Rattle.script_engine.specs.Engines.{local_by_all}
use Rattle.dfsr.specs.Big.{groups, number_at}
use Rattle.dfsr.specs.Leading.{LeadsOn}
use Rattle.dfsr.proofs.big.run_groups.Given as goal

-- the groups so far led the engine on
abbrev pub invariant-loop-done : goal.invariant-loop-done
invariant-loop-done l = record {
  number : l.number ≡ number_at l.seed l.done;
  within : local_by_all l.engine ≤ local_by_all l.fn.engine + 2 * l.done;
  leads : LeadsOn l.fn.engine (groups l.seed l.done) l.engine;
}
