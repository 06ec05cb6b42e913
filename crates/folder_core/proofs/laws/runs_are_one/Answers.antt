use Rattle.folder_core.proofs.OneAnswer.{runs_are_one}
use Rattle.folder_core.proofs.laws.runs_are_one.Goals as goal

pub returns : goal.returns
returns c = runs_are_one
