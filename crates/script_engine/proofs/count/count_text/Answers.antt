use Rattle.std.proofs.Common.{◌≡◌, ◌∷◌, [], length}
use Rattle.std.specs.Prelude.{codes, count_by, decimal}
use Rattle.script_engine.specs.Text.{count_text}
use Rattle.script_engine.specs.Trees.{files_in}
use Rattle.script_engine.proofs.Texts.{joined, said_of}
use Rattle.script_engine.proofs.count.count_text.Goals as goal

pub returns : goal.returns
returns c =
    let records = c.args.records.now in
    let rows = c.args.rows.now in
    let vector = c.args.vector.now in
    said_of c.format.result _ (λ text. text ≡ count_text records rows vector) c.format.ensures.ok
    (joined (codes "records") (decimal (length records) ∷ codes "live" ∷ decimal (count_by (λ u. u.present) records) ∷ [])
    (codes "files") (decimal (files_in rows) ∷ codes "intervals" ∷ decimal (length vector) ∷ []) _ _ c.in_ok-records.ensures c.in_ok-tree.ensures)
