use Rattle.frs_base.specs.Machines.{Runs}
use Rattle.frs_journal.proofs.opening.run_all.Given as goal

abbrev pub invariant-loop-command : goal.invariant-loop-command
invariant-loop-command g l = (t : g.M.Machine.State) → Runs g.M.Machine.law.step (g.M.Machine.state l.machine) l.command-iterator.rest.items t → Runs g.M.Machine.law.step (g.M.Machine.state l.fn.machine) l.fn.commands.items t
