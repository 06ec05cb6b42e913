use Rattle.vol_state.proofs.Standing.{stands_on}
use Rattle.vol_state.proofs.laws.lists_stand_for_maps.Goals as goal

pub returns : goal.returns
returns c = stands_on
