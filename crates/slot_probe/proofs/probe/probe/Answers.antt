use Rattle.slot_probe.proofs.Founds.{found_loaded}
use Rattle.slot_probe.proofs.probe.probe.Goals as goal

pub returns-in-Ok : goal.returns-in-Ok
returns-in-Ok c =
    found_loaded c.args.a.now c.args.b.now c.in-Ok.journal.machine.strings.items c.in-Ok.journal.serial c.state_of.result c.in_ok-disk_a.disk_a.states c.in_ok-disk_b.disk_b.states
    c.in_ok-disk_a.ensures c.in_ok-disk_b.ensures c.in-Ok.ensures.state c.state_of.ensures
