use Rattle.vol_state.specs.Replica as rep
use Rattle.name_rules.specs.declared.step.Step.TheVariants.{Park}
use Rattle.folder_core.specs.Machine.{Machine}
use Rattle.folder_core.proofs.Installing.{given_is, is_given, next_at, parks}
use Rattle.folder_core.proofs.machine.Machine.park.Goals as goal

pub park-cmd-requires : goal.park-cmd-requires
park-cmd-requires c =
    let m : Machine = record { volume = c.self.inside.volume.state; book = c.self.inside.book.state } in
    is_given m (Park c.args.uid.now) (rep.Park c.args.uid.now) (parks m c.self.invariant c.args.uid.now (next_at m c.args.self.now (Park c.args.uid.now) c.self.view_is c.requires.next))

pub install_by-requires-clause-operation : goal.install_by-requires-clause-operation
install_by-requires-clause-operation c =
    let m : Machine = record { volume = c.self.inside.volume.state; book = c.self.inside.book.state } in
    given_is m c.args.self.now (Park c.args.uid.now) (rep.Park c.args.uid.now) c.park-cmd.result c.self.view_is
    (parks m c.self.invariant c.args.uid.now (next_at m c.args.self.now (Park c.args.uid.now) c.self.view_is c.requires.next)) c.park-cmd.ensures.command
