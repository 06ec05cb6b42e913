use Rattle.std.proofs.Common.{rules, ◌≡◌, false}
use Rattle.frs_journal.proofs.Commits.{kept_length}
use Rattle.frs_journal.proofs.journalled.Journalled.end.Goals as goal

pub returns-clause-length : goal.returns-clause-length
returns-clause-length g c = λ open_is.
    let s = c.self.inside in
    let f = g.D.FrsDisk.states in
    let open' : s.shut ≡ false = search rules in
    rw (← c.self.view_is) (kept_length g.M.Machine.law (g.M.Machine.state s.machine) s.in_b s.end s.serial (f s.current) (f s.other) (c.self.invariant.2 open'))
