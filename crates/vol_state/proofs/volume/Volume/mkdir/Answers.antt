use Rattle.std.proofs.Common.{◌≡◌, rules, Ok}
use Rattle.vol_state.specs.declared.operation.LocalOp.TheVariants as op
use Rattle.vol_state.specs.declared.command.VolCmd.TheVariants as cmd
use Rattle.vol_state.specs.Paths.{resolve}
use Rattle.vol_state.proofs.Resolving.{resolve_allowed}
use Rattle.vol_state.proofs.volume.Volume.mkdir.Goals as goal

pub returns-clause-allowed : goal.returns-clause-allowed
returns-clause-allowed c =
    let e : resolve c.args.self.now.state.objects (op.Mkdir c.args.path.now) ≡ Ok (cmd.Mkdir c.in-Ok.at c.in_ok-name.name) = search rules in
    resolve_allowed c.args.self.now.state c.shelf.ensures.valid (op.Mkdir c.args.path.now) (cmd.Mkdir c.in-Ok.at c.in_ok-name.name) e
