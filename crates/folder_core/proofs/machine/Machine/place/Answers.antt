use Rattle.std.proofs.Common.{◌≡◌, sym, subst, Some}
use Rattle.std.specs.Prelude.{IsSome}
use Rattle.vol_state.specs.Replica.{replica}
use Rattle.vol_state.specs.Replica as rep
use Rattle.name_rules.specs.declared.step.Step.TheVariants.{Place}
use Rattle.folder_core.specs.Install.{IsRecordOf}
use Rattle.folder_core.specs.Machine.{Machine}
use Rattle.folder_core.proofs.Installing.{given_is, has_parent, is_given, next_at, places}
use Rattle.folder_core.proofs.machine.Machine.place.Goals as goal

pub place-cmd-requires : goal.place-cmd-requires
place-cmd-requires c =
    let m : Machine = record { volume = c.self.inside.volume.state; book = c.self.inside.book.state } in
    let uid = c.args.uid.now in
    let u = c.record_of-record.result.now in
    let n = next_at m c.args.self.now (Place uid) c.self.view_is c.requires.next in
    let is = subst (λ x. IsRecordOf x uid u) (sym c.self.view_is) c.record_of-record.ensures in
    subst (λ name. IsSome (replica m.volume (rep.Place uid u.parent name))) (sym c.in_ok-name.ensures)
    (is_given m (Place uid) (rep.Place uid u.parent u.name) (places m c.self.invariant uid u n is (has_parent m c.self.invariant uid u n is)))

pub install_by-requires-clause-operation : goal.install_by-requires-clause-operation
install_by-requires-clause-operation c =
    let m : Machine = record { volume = c.self.inside.volume.state; book = c.self.inside.book.state } in
    let uid = c.args.uid.now in
    let u = c.record_of-record.result.now in
    let n = next_at m c.args.self.now (Place uid) c.self.view_is c.requires.next in
    let is = subst (λ x. IsRecordOf x uid u) (sym c.self.view_is) c.record_of-record.ensures in
    given_is m c.args.self.now (Place uid) (rep.Place uid u.parent u.name) c.place-cmd.result c.self.view_is
    (places m c.self.invariant uid u n is (has_parent m c.self.invariant uid u n is))
    (subst (λ name. replica m.volume (rep.Place uid u.parent name) ≡ Some c.place-cmd.result) c.in_ok-name.ensures c.place-cmd.ensures.command)
