use Rattle.std.proofs.Common.{ap, ◌∙◌}
use Rattle.vol_state.specs.Replica as rep
use Rattle.name_rules.specs.declared.step.Step.TheVariants.{Rewrite}
use Rattle.folder_core.specs.Install.{contents_in}
use Rattle.folder_core.specs.Machine.{Machine}
use Rattle.folder_core.proofs.Installing.{given_is, is_given, next_at, rewrites}
use Rattle.folder_core.proofs.machine.Machine.rewrite.Goals as goal

pub rewrite-cmd-requires : goal.rewrite-cmd-requires
rewrite-cmd-requires c =
    let m : Machine = record { volume = c.self.inside.volume.state; book = c.self.inside.book.state } in
    is_given m (Rewrite c.args.uid.now) (rep.Rewrite c.args.uid.now c.in_ok-bytes.bytes.items)
    (rewrites m c.self.invariant c.args.uid.now c.in_ok-bytes.bytes.items (next_at m c.args.self.now (Rewrite c.args.uid.now) c.self.view_is c.requires.next) (c.in_ok-bytes.ensures ∙ ap contents_in c.form.ensures))

pub install_by-requires-clause-operation : goal.install_by-requires-clause-operation
install_by-requires-clause-operation c =
    let m : Machine = record { volume = c.self.inside.volume.state; book = c.self.inside.book.state } in
    given_is m c.args.self.now (Rewrite c.args.uid.now) (rep.Rewrite c.args.uid.now c.in_ok-bytes.bytes.items) c.rewrite-cmd.result c.self.view_is
    (rewrites m c.self.invariant c.args.uid.now c.in_ok-bytes.bytes.items (next_at m c.args.self.now (Rewrite c.args.uid.now) c.self.view_is c.requires.next) (c.in_ok-bytes.ensures ∙ ap contents_in c.form.ensures))
    c.rewrite-cmd.ensures.command
