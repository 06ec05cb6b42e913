use Rattle.rpc_pdu.proofs.Spelled.{are_spelled}
use Rattle.rpc_pdu.proofs.laws.pdus_are_spelled.Goals as goal

pub returns : goal.returns
returns c = are_spelled
