use Rattle.vol_state.proofs.Standing.{begins_standing}
use Rattle.vol_state.proofs.laws.fresh_lists_stand_for_maps.Goals as goal

pub returns : goal.returns
returns c = begins_standing
