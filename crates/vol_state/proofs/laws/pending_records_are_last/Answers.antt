use Rattle.vol_state.proofs.Recent.{pending_is_last}
use Rattle.vol_state.proofs.laws.pending_records_are_last.Goals as goal

pub returns : goal.returns
returns c = pending_is_last
