use Rattle.ndr_frs.proofs.Replies.{are_exact}
use Rattle.ndr_frs.proofs.laws.replies_are_exact.Goals as goal

pub returns : goal.returns
returns c = are_exact
