use Rattle.std.proofs.Common.{◌≡◌, rules, Ok}
use Rattle.vol_state.specs.declared.operation.LocalOp.TheVariants as op
use Rattle.vol_state.specs.declared.command.VolCmd.TheVariants as cmd
use Rattle.vol_state.specs.Paths.{resolve}
use Rattle.vol_state.proofs.Resolving.{resolve_allowed}
use Rattle.vol_state.proofs.volume.Volume.move_to.Goals as goal

pub returns-clause-allowed : goal.returns-clause-allowed
returns-clause-allowed c =
    let e : resolve c.args.self.now.state.objects (op.Move c.args.from.now c.args.to.now) ≡ Ok (cmd.Move c.in-Ok.o.now.fid c.in-Ok-home.at c.in_ok-name.name) = search rules in
    resolve_allowed c.args.self.now.state c.shelf-shelf.ensures.valid (op.Move c.args.from.now c.args.to.now) (cmd.Move c.in-Ok.o.now.fid c.in-Ok-home.at c.in_ok-name.name) e
