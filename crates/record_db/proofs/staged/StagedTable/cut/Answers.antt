use Rattle.std.proofs.Common.{◌∙◌, ap, None}
use Rattle.record_db.specs.Staged.{staged_of, staged_with}
use Rattle.record_db.proofs.Forms.{cut_kept}
use Rattle.record_db.proofs.staged.StagedTable.cut.Goals as goal

pub returns-clause-items : goal.returns-clause-items
returns-clause-items c =
    ap staged_of c.cut.ensures.cut ∙ cut_kept c.args.uid.now c.self.inside.forms.entries c.first.ensures.rising
    ∙ ap (staged_with c.args.uid.now None) (ap (λ s. s.items) c.self.view_is)
