use Rattle.std.proofs.Common.{rules, ◌≤◌}
use Rattle.frs_disk.proofs.Keeping.{aside_safe}
use Rattle.frs_disk.proofs.history.set_aside.Goals as goal

pub returns-clause-safe : goal.returns-clause-safe
returns-clause-safe c =
    let le : c.args.at ≤ c.args.clean = search rules in
    aside_safe c.args.bytes.now c.args.behind.now.items c.prepend.new.pool.items c.args.clean c.args.at le c.prepend.ensures.items
