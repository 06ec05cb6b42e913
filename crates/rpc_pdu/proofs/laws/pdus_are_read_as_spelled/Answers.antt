use Rattle.rpc_pdu.proofs.Decoded.{read_as_spelled}
use Rattle.rpc_pdu.proofs.laws.pdus_are_read_as_spelled.Goals as goal

pub returns : goal.returns
returns c = read_as_spelled
