use Rattle.std.proofs.Common.{rules, ◌<◌, ℕ, get_or}
use Rattle.frs_journal.proofs.Records.{read_count, read_none}
use Rattle.frs_journal.proofs.reading.read_slot.Goals as goal

pub read_commands-requires : goal.read_commands-requires
read_commands-requires g c =
    let small : (i : ℕ) → get_or c.args.bytes.now i 0 < 256 = search rules in
    read_count g.M.Machine.law c.args.bytes.now c.in-Some.saved small c.requires c.in-Some.ensures.some

pub read_commands-requires-in-None : goal.read_commands-requires-in-None
read_commands-requires-in-None g c =
    let small : (i : ℕ) → get_or c.args.bytes.now i 0 < 256 = search rules in
    read_none g.M.Machine.law c.args.bytes.now small c.requires c.in-None.ensures.none
