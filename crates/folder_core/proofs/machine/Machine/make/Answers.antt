use Rattle.std.proofs.Common.{◌≡◌, sym, ap, ◌∙◌, subst, Some}
use Rattle.std.specs.Prelude.{IsSome}
use Rattle.vol_state.specs.Replica.{replica}
use Rattle.vol_state.specs.Replica as rep
use Rattle.name_rules.specs.Tree.{kind_of}
use Rattle.name_rules.specs.declared.step.Step.TheVariants.{Make}
use Rattle.folder_core.specs.Install.{IsRecordOf, contents_in}
use Rattle.folder_core.specs.Machine.{Machine}
use Rattle.folder_core.proofs.Installing.{given_is, is_given, makes, next_at}
use Rattle.folder_core.proofs.machine.Machine.make.Goals as goal

pub make-cmd-requires : goal.make-cmd-requires
make-cmd-requires c =
    let m : Machine = record { volume = c.self.inside.volume.state; book = c.self.inside.book.state } in
    let uid = c.args.uid.now in
    let u = c.record_of.result.now in
    let bytes = c.in_ok-bytes.bytes.items in
    let is = subst (λ x. IsRecordOf x uid u) (sym c.self.view_is) c.record_of.ensures in
    subst (λ k. IsSome (replica m.volume (rep.Make uid k bytes))) (sym c.kind_of-kind.ensures)
    (is_given m (Make uid) (rep.Make uid (kind_of u) bytes) (makes m c.self.invariant uid u bytes (next_at m c.args.self.now (Make uid) c.self.view_is c.requires.next) is (c.in_ok-bytes.ensures ∙ ap contents_in c.form.ensures)))

pub install_by-requires-clause-operation : goal.install_by-requires-clause-operation
install_by-requires-clause-operation c =
    let m : Machine = record { volume = c.self.inside.volume.state; book = c.self.inside.book.state } in
    let uid = c.args.uid.now in
    let u = c.record_of.result.now in
    let bytes = c.in_ok-bytes.bytes.items in
    let is = subst (λ x. IsRecordOf x uid u) (sym c.self.view_is) c.record_of.ensures in
    given_is m c.args.self.now (Make uid) (rep.Make uid (kind_of u) bytes) c.make-cmd.result c.self.view_is
    (makes m c.self.invariant uid u bytes (next_at m c.args.self.now (Make uid) c.self.view_is c.requires.next) is (c.in_ok-bytes.ensures ∙ ap contents_in c.form.ensures))
    (subst (λ k. replica m.volume (rep.Make uid k bytes) ≡ Some c.make-cmd.result) c.kind_of-kind.ensures c.make-cmd.ensures.command)
