use Rattle.std.proofs.Common.{◌≡◌, rules, Ok}
use Rattle.vol_state.specs.declared.operation.LocalOp.TheVariants as op
use Rattle.vol_state.specs.declared.command.VolCmd.TheVariants as cmd
use Rattle.vol_state.specs.Paths.{resolve}
use Rattle.vol_state.proofs.Resolving.{resolve_allowed}
use Rattle.vol_state.proofs.volume.Volume.put.Goals as goal

pub returns-clause-allowed : goal.returns-clause-allowed
returns-clause-allowed c =
    let e : resolve c.args.self.now.state.objects (op.Put c.args.path.now c.args.bytes.items) ≡ Ok (cmd.PutNew c.in-Ok.at c.in_ok-name.name c.of-bytes.result) = search rules in
    resolve_allowed c.args.self.now.state c.shelf-shelf.ensures.valid (op.Put c.args.path.now c.args.bytes.items) (cmd.PutNew c.in-Ok.at c.in_ok-name.name c.of-bytes.result) e

pub returns-in-Some-clause-allowed : goal.returns-in-Some-clause-allowed
returns-in-Some-clause-allowed c =
    let e : resolve c.args.self.now.state.objects (op.Put c.args.path.now c.args.bytes.items) ≡ Ok (cmd.PutOver c.in-Some.o.now.fid c.of-bytes.result) = search rules in
    resolve_allowed c.args.self.now.state c.shelf-shelf.ensures.valid (op.Put c.args.path.now c.args.bytes.items) (cmd.PutOver c.in-Some.o.now.fid c.of-bytes.result) e
