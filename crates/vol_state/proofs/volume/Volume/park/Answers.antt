use Rattle.std.proofs.Common.{◌≡◌, rules, Some}
use Rattle.vol_state.specs.declared.command.VolCmd.TheVariants as cmd
use Rattle.vol_state.specs.Replica.{Park, replica}
use Rattle.vol_state.proofs.Replicas.{replica_allowed}
use Rattle.vol_state.proofs.volume.Volume.park.Goals as goal

pub returns-clause-allowed : goal.returns-clause-allowed
returns-clause-allowed c =
    let e : replica c.args.self.now.state (Park c.args.uid) ≡ Some (cmd.Park c.in-Some.o.now.fid) = search rules in
    replica_allowed c.args.self.now.state c.object_of.ensures.valid (Park c.args.uid) (cmd.Park c.in-Some.o.now.fid) e
