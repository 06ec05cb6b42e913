use Rattle.vol_state.proofs.Resolved.{lists_resolve}
use Rattle.vol_state.proofs.laws.lists_resolve_as_maps.Goals as goal

pub returns : goal.returns
returns c = lists_resolve
