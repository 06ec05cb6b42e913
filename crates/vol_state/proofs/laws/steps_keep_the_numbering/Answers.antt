use Rattle.vol_state.proofs.Numbering.{keeps_numbering}
use Rattle.vol_state.proofs.laws.steps_keep_the_numbering.Goals as goal

pub returns : goal.returns
returns c = keeps_numbering
