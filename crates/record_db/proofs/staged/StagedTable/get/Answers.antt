use Rattle.std.proofs.Common.{◌∙◌, ap, List, option_map}
use Rattle.std.specs.Prelude.{find}
use Rattle.frs_base.specs.Versions.{same_uid}
use Rattle.record_db.specs.declared.staged.Staged.{Staged}
use Rattle.record_db.proofs.Forms.{find_kept}
use Rattle.record_db.proofs.staged.StagedTable.get.Goals as goal

pub returns : goal.returns
returns c =
    c.get.ensures.value ∙ find_kept c.args.uid.now c.self.inside.forms.entries
    ∙ ap (λ (l : List Staged). option_map (λ s. s.form) (find (λ s. same_uid s.uid c.args.uid.now) l)) (ap (λ s. s.items) c.self.view_is)
