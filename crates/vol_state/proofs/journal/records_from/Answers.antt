use Rattle.std.proofs.Common.{◌∙◌, leb, ap, arith}
use Rattle.std.proofs.lemmas.List.{take_rest}
use Rattle.std.specs.Prelude.{filter}
use Rattle.vol_state.proofs.Recent.{run_from}
use Rattle.vol_state.proofs.journal.records_from.Goals as goal

pub returns : goal.returns
returns c =
    ap (filter (λ r. leb c.args.from r.usn)) (take_rest c.args.records.now c.min.result)
    ∙ run_from 9 c.args.from c.min.result c.args.records.now c.requires (omega arith)
