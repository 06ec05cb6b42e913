use Rattle.rpc_frag.proofs.Cuts.{any_cut, one_reading}
use Rattle.rpc_frag.proofs.laws.any_cut_of_any_decoder.Goals as goal

pub returns-clause-cut : goal.returns-clause-cut
returns-clause-cut g c = any_cut

pub returns-clause-one : goal.returns-clause-one
returns-clause-one g c = one_reading
