use Rattle.world_model.proofs.Alone.{answers_are_one, answers_there, steps_fit}
use Rattle.world_model.proofs.laws.members_do_their_steps.Goals as goal

pub returns-clause-fit : goal.returns-clause-fit
returns-clause-fit c = steps_fit

pub returns-clause-once : goal.returns-clause-once
returns-clause-once c = answers_are_one

pub returns-clause-there : goal.returns-clause-there
returns-clause-there c = answers_there
