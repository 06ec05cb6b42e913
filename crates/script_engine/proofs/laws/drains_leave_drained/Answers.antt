use Rattle.script_engine.proofs.Equal.{drain_drains, drains_cover, drains_keep_records, pairs_print_alike}
use Rattle.script_engine.proofs.laws.drains_leave_drained.Goals as goal

pub returns-clause-drained : goal.returns-clause-drained
returns-clause-drained c = drain_drains

pub returns-clause-covered : goal.returns-clause-covered
returns-clause-covered c = drains_cover

pub returns-clause-records : goal.returns-clause-records
returns-clause-records c = drains_keep_records

pub returns-clause-pairs : goal.returns-clause-pairs
returns-clause-pairs c = pairs_print_alike
