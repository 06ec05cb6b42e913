use Rattle.world_model.proofs.Drained.{drained_where_nothing_is_due, fresh_members_are_drained}
use Rattle.world_model.proofs.laws.members_are_drained_where_nothing_is_due.Goals as goal

pub returns-clause-due : goal.returns-clause-due
returns-clause-due c = drained_where_nothing_is_due

pub returns-clause-fresh : goal.returns-clause-fresh
returns-clause-fresh c = fresh_members_are_drained
