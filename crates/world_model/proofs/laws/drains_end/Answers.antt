use Rattle.world_model.proofs.Ending.{drains_end, files_are_listed}
use Rattle.world_model.proofs.laws.drains_end.Goals as goal

pub returns-clause-ends : goal.returns-clause-ends
returns-clause-ends c = drains_end

pub returns-clause-listed : goal.returns-clause-listed
returns-clause-listed c = files_are_listed
