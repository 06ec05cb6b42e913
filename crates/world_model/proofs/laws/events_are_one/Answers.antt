use Rattle.world_model.proofs.Deeds.{acts_are_one, events_are_one}
use Rattle.world_model.proofs.laws.events_are_one.Goals as goal

pub returns-clause-events : goal.returns-clause-events
returns-clause-events c = events_are_one

pub returns-clause-acts : goal.returns-clause-acts
returns-clause-acts c = acts_are_one
