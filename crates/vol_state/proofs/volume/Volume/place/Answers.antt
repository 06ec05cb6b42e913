use Rattle.std.proofs.Common.{◌≡◌, rules, Some}
use Rattle.vol_state.specs.declared.command.VolCmd.TheVariants as cmd
use Rattle.vol_state.specs.State.{object_of}
use Rattle.vol_state.specs.Replica.{Place, parent_fid}
use Rattle.vol_state.proofs.Replicas.{place_is, replica_allowed}
use Rattle.vol_state.proofs.volume.Volume.place.Goals as goal

pub returns-clause-command : goal.returns-clause-command
returns-clause-command c =
    let there : object_of c.args.self.now.state c.args.uid ≡ Some c.in-Some.o.now = search rules in
    let home : parent_fid c.args.self.now.state c.args.parent ≡ Some c.in-Some-parent_fid.at = search rules in
    place_is c.args.self.now.state c.args.uid c.args.parent c.args.name c.in-Some.o.now c.in-Some-parent_fid.at there home c.requires

pub returns-clause-allowed : goal.returns-clause-allowed
returns-clause-allowed c =
    let there : object_of c.args.self.now.state c.args.uid ≡ Some c.in-Some.o.now = search rules in
    let home : parent_fid c.args.self.now.state c.args.parent ≡ Some c.in-Some-parent_fid.at = search rules in
    replica_allowed c.args.self.now.state c.object_of.ensures.valid (Place c.args.uid c.args.parent c.args.name) (cmd.Place c.in-Some.o.now.fid c.in-Some-parent_fid.at c.args.name)
    (place_is c.args.self.now.state c.args.uid c.args.parent c.args.name c.in-Some.o.now c.in-Some-parent_fid.at there home c.requires)
