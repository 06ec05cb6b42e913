use Rattle.std.proofs.Common.{ap}
use Rattle.std.proofs.lemmas.Result.{IfErr-weaker, IfOk-weaker}
use Rattle.frs_journal.specs.Loads.{Loads}
use Rattle.frs_journal.proofs.Begins.{fresh_crash, fresh_moments, has_none, has_still, none_of}
use Rattle.frs_journal.proofs.Commits.{any_might}
use Rattle.frs_journal.proofs.journalled.Journalled.fresh.Goals as goal

pub begin-requires-clause-still : goal.begin-requires-clause-still
begin-requires-clause-still g c = has_still (g.D.FrsDisk.states c.args.disk_a) c.requires.empty_a

pub begin-requires-clause-none_a : goal.begin-requires-clause-none_a
begin-requires-clause-none_a g c = has_none (g.D.FrsDisk.states c.args.disk_a) c.requires.empty_a

pub begin-requires-clause-none_b : goal.begin-requires-clause-none_b
begin-requires-clause-none_b g c = none_of (g.D.FrsDisk.states c.args.disk_b) c.requires.empty_b

pub returns-clause-crash : goal.returns-clause-crash
returns-clause-crash g c =
    let f = g.D.FrsDisk.states in
    IfOk-weaker c.begin.result _ _
    (λ j h. fresh_moments g.M.Machine.law f (g.M.Machine.state c.args.machine) c.args.disk_a c.args.disk_b j.current j.other j.in_b c.requires.fresh c.requires.empty_a c.requires.empty_b h.0 h.1 h.2)
    c.begin.ensures.moved

pub returns-clause-failed : goal.returns-clause-failed
returns-clause-failed g c =
    let f = g.D.FrsDisk.states in
    let law = g.M.Machine.law in
    let m = g.M.Machine.state c.args.machine in
    IfErr-weaker c.begin.result _ _
    (λ fault h. any_might (Loads law m 0) (f c.args.disk_a) (f fault.disk_a) (f c.args.disk_b) (f fault.disk_b)
    (fresh_crash law m (f c.args.disk_a) (f fault.disk_a) (f c.args.disk_b) (f fault.disk_b) c.requires.fresh c.requires.empty_a c.requires.empty_b h.0 (ap f h.1)))
    c.begin.ensures.failed
