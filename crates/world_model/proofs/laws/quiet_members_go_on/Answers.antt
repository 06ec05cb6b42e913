use Rattle.world_model.proofs.Next.{drained_members_have_none, next_steps_are_one, quiet_members_go_on}
use Rattle.world_model.proofs.laws.quiet_members_go_on.Goals as goal

pub returns-clause-goes_on : goal.returns-clause-goes_on
returns-clause-goes_on c = quiet_members_go_on

pub returns-clause-one : goal.returns-clause-one
returns-clause-one c = next_steps_are_one

pub returns-clause-drained : goal.returns-clause-drained
returns-clause-drained c = drained_members_have_none
