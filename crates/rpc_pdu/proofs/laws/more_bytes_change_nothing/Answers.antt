use Rattle.rpc_pdu.proofs.Steady.{stays}
use Rattle.rpc_pdu.proofs.laws.more_bytes_change_nothing.Goals as goal

pub returns : goal.returns
returns c = stays
