use Rattle.vol_state.proofs.Permitted.{resolved_may}
use Rattle.vol_state.proofs.laws.resolved_commands_may_be_done.Goals as goal

pub returns : goal.returns
returns c = resolved_may
