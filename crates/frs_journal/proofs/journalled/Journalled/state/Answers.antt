use Rattle.std.proofs.Common.{rules, ◌≡◌, false}
use Rattle.frs_journal.specs.Loads.{Loads}
use Rattle.frs_journal.proofs.Commits.{kept_leaves, once_now}
use Rattle.frs_journal.proofs.journalled.Journalled.state.Goals as goal

pub returns-clause-leaves : goal.returns-clause-leaves
returns-clause-leaves g c = λ open_is.
    let s = c.self.inside in
    let law = g.M.Machine.law in
    let f = g.D.FrsDisk.states in
    let open' : s.shut ≡ false = search rules in
    rw (← c.self.view_is) (once_now f s.in_b (Loads law (g.M.Machine.state s.machine) s.serial) s.current s.other
    (kept_leaves law (g.M.Machine.state s.machine) s.in_b s.end s.serial (f s.current) (f s.other) (c.self.invariant.2 open')))
