use Rattle.frs_journal.proofs.Moves.{opened_kept, opened_loads}
use Rattle.frs_journal.proofs.loading.open_current.Goals as goal

pub at_rest-requires-clause-kept : goal.at_rest-requires-clause-kept
at_rest-requires-clause-kept g c =
    let f = g.D.FrsDisk.states in
    opened_kept g.M.Machine.law g.met.M.Machine.lawful.keeps_origin (g.M.Machine.state c.args.machine) (g.M.Machine.state c.in-Ok.opened.machine) c.args.in_b
    c.args.bytes.now c.in-Ok.opened.end c.in-Ok.opened.serial (f c.open_slot.new.disk) (f c.args.other) c.requires.fresh c.in-Ok.ensures.done c.requires.yields

pub returns-in-Ok-clause-state : goal.returns-in-Ok-clause-state
returns-in-Ok-clause-state g c =
    let f = g.D.FrsDisk.states in
    rw c.at_rest.ensures (λ others yields. opened_loads g.M.Machine.law g.met.M.Machine.lawful.keeps_origin (g.M.Machine.state c.args.machine) (g.M.Machine.state c.in-Ok.opened.machine) c.args.in_b
    c.args.bytes.now others c.in-Ok.opened.end c.in-Ok.opened.serial (f c.open_slot.new.disk) c.requires.fresh c.in-Ok.ensures.done yields)
