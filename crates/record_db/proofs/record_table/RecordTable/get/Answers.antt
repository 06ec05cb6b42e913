use Rattle.std.proofs.Common.{◌∙◌, ap, List}
use Rattle.std.specs.Prelude.{find}
use Rattle.frs_base.specs.Versions.{same_uid}
use Rattle.win_order.specs.declared.update.Update.{Update}
use Rattle.record_db.proofs.Maps.{find_filed}
use Rattle.record_db.proofs.record_table.RecordTable.get.Goals as goal

pub returns : goal.returns
returns c =
    c.get.ensures.value ∙ find_filed c.args.uid.now c.self.inside.files.entries c.self.invariant.by_file
    ∙ ap (λ (l : List Update). find (λ r. same_uid r.uid c.args.uid.now) l) (ap (λ s. s.items) c.self.view_is)
