use Rattle.std.proofs.Common.{◌∙◌, ap, sym, Some, List, Option, ℕ}
use Rattle.std.specs.BTreeMap.{insert_entry}
use Rattle.record_db.specs.Maps.{uid_cmp}
use Rattle.record_db.specs.Staged.{staged_of, staged_with}
use Rattle.record_db.proofs.Forms.{put_kept}
use Rattle.record_db.proofs.staged.StagedTable.put.Goals as goal

pub returns-in-Some : goal.returns-in-Some
returns-in-Some c =
    let uid = c.args.uid in
    let es = c.self.inside.forms.entries in
    ap staged_of (c.put.ensures.put ∙ ap (insert_entry uid_cmp es uid) c.into_kept.ensures) ∙ put_kept uid c.in-Some.form es c.first.ensures.rising
    ∙ (λ i. staged_with uid (sym c.in-Some.is i) (c.self.view_is i).items)
