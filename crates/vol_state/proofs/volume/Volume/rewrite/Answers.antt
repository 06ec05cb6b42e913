use Rattle.std.proofs.Common.{◌≡◌, rules, Some}
use Rattle.vol_state.specs.declared.command.VolCmd.TheVariants as cmd
use Rattle.vol_state.specs.Replica.{Rewrite, replica}
use Rattle.vol_state.proofs.Replicas.{replica_allowed}
use Rattle.vol_state.proofs.volume.Volume.rewrite.Goals as goal

pub returns-clause-allowed : goal.returns-clause-allowed
returns-clause-allowed c =
    let e : replica c.args.self.now.state (Rewrite c.args.uid c.args.bytes.items) ≡ Some (cmd.Rewrite c.in-Some.o.now.fid c.of.result) = search rules in
    replica_allowed c.args.self.now.state c.object_of.ensures.valid (Rewrite c.args.uid c.args.bytes.items) (cmd.Rewrite c.in-Some.o.now.fid c.of.result) e
