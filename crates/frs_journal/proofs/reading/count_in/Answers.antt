use Rattle.std.proofs.Common.{rules, ◌≡◌, length, get_or}
use Rattle.frs_journal.proofs.Records.{counts_in}
use Rattle.frs_journal.proofs.reading.count_in.Goals as goal

pub returns-clause-some : goal.returns-clause-some
returns-clause-some c =
    let size : length c.args.payload.now ≡ 9 = search rules in
    let first : get_or c.args.payload.now 0 0 ≡ 255 = search rules in
    counts_in c.args.payload.now c.from_le_bytes.result size first c.from_le_bytes.ensures
