use Rattle.std.proofs.Common.{subst, inl}
use Rattle.std.specs.Prelude.{Result}
use Rattle.vol_state.specs.declared.command.VolCmd.{VolCmd}
use Rattle.vol_state.specs.declared.operation.Refused.{Refused}
use Rattle.vol_state.specs.Maps.{maps_of}
use Rattle.vol_state.specs.Valid.{IsVolume}
use Rattle.vol_state.specs.Ways.{Resolves}
use Rattle.folder_core.specs.Machine.{Machine}
use Rattle.folder_core.proofs.Alike.{stands_for_maps}
use Rattle.folder_core.proofs.machine.Machine.local.Goals as goal

pub operate-requires-clause-may : goal.operate-requires-clause-may
operate-requires-clause-may c =
    let v = c.args.self.now.volume in
    let Valid : Machine → Type 0 = λ m. IsVolume m.volume in
    let Comes : Result VolCmd Refused → Type 0 = λ r. Resolves (maps_of v) c.args.operation r in
    let valid = subst Valid c.self.view_is c.self.invariant.order.volume in
    inl (c.path_laws.ensures.may c.args.operation (maps_of v) c.in_ok-cmd.cmd
    (subst Comes c.in_ok-cmd.ensures.command (c.path_laws.ensures.resolve c.args.operation v (maps_of v) valid (stands_for_maps v))))
