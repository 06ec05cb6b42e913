use Rattle.vol_state.proofs.Resolved.{resolves_to_one}
use Rattle.vol_state.proofs.laws.operations_resolve_to_one.Goals as goal

pub returns : goal.returns
returns c = resolves_to_one
