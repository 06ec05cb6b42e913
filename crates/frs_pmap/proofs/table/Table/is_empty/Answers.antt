use Rattle.frs_pmap.proofs.Counts.{none_first}
use Rattle.frs_pmap.proofs.table.Table.is_empty.Goals as goal

pub returns : goal.returns
returns g c = none_first c.args.self.now.entries c.first.result c.is_none.result c.first.ensures.first c.is_none.ensures
