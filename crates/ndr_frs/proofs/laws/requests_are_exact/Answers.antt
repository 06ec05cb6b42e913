use Rattle.ndr_frs.proofs.Requests.{are_exact}
use Rattle.ndr_frs.proofs.laws.requests_are_exact.Goals as goal

pub returns : goal.returns
returns c = are_exact
