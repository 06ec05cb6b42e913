use Rattle.vol_state.specs.Replica as rep
use Rattle.name_rules.specs.declared.step.Step.TheVariants.{Erase}
use Rattle.folder_core.specs.Machine.{Machine}
use Rattle.folder_core.proofs.Installing.{given_is, is_given, next_at, erases}
use Rattle.folder_core.proofs.machine.Machine.erase.Goals as goal

pub erase-cmd-requires : goal.erase-cmd-requires
erase-cmd-requires c =
    let m : Machine = record { volume = c.self.inside.volume.state; book = c.self.inside.book.state } in
    is_given m (Erase c.args.uid.now) (rep.Erase c.args.uid.now) (erases m c.self.invariant c.args.uid.now (next_at m c.args.self.now (Erase c.args.uid.now) c.self.view_is c.requires.next))

pub install_by-requires-clause-operation : goal.install_by-requires-clause-operation
install_by-requires-clause-operation c =
    let m : Machine = record { volume = c.self.inside.volume.state; book = c.self.inside.book.state } in
    given_is m c.args.self.now (Erase c.args.uid.now) (rep.Erase c.args.uid.now) c.erase-cmd.result c.self.view_is
    (erases m c.self.invariant c.args.uid.now (next_at m c.args.self.now (Erase c.args.uid.now) c.self.view_is c.requires.next)) c.erase-cmd.ensures.command
