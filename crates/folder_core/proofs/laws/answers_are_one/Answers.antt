use Rattle.folder_core.proofs.OneAnswer.{answers_are_one}
use Rattle.folder_core.proofs.laws.answers_are_one.Goals as goal

pub returns : goal.returns
returns c = answers_are_one
