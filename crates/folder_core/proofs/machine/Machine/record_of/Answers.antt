use Rattle.std.proofs.Common.{◌≡◌, sym, ap, ◌∙◌, subst, Some, None}
use Rattle.std.specs.Prelude.{option_copied}
use Rattle.win_order.specs.declared.update.Update.{Update}
use Rattle.folder_core.specs.Install.{IsRecordOf}
use Rattle.folder_core.specs.Machine.{Machine}
use Rattle.folder_core.proofs.Installing.{record_found}
use Rattle.folder_core.proofs.machine.Machine.record_of.Goals as goal

none_some : (u : Update) → None ≡ Some u → ⊥
none_some u e = cc

some_is : (u v : Update) → Some u ≡ Some v → u ≡ v
some_is u v e = cc

pub unreachable-requires : goal.unreachable-requires
unreachable-requires c =
    let m : Machine = record { volume = c.self.inside.volume.state; book = c.self.inside.book.state } in
    let (u, found, is) = record_found m c.args.self.now c.args.uid.now c.self.view_is c.self.invariant c.requires in
    none_some u (sym (ap option_copied c.in_default.is) ∙ (c.held.ensures ∙ found))

pub returns : goal.returns
returns c =
    let m : Machine = record { volume = c.self.inside.volume.state; book = c.self.inside.book.state } in
    let (u, found, is) = record_found m c.args.self.now c.args.uid.now c.self.view_is c.self.invariant c.requires in
    subst (IsRecordOf c.args.self.now c.args.uid.now) (some_is u c.in-Some.update.now (sym found ∙ (sym c.held.ensures ∙ ap option_copied c.in-Some.is))) is
