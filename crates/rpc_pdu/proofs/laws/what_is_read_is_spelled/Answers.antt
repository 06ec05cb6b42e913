use Rattle.rpc_pdu.proofs.Decoded.{read_is_spelled}
use Rattle.rpc_pdu.proofs.laws.what_is_read_is_spelled.Goals as goal

pub returns : goal.returns
returns c = read_is_spelled
