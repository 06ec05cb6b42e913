use Rattle.rpc_pdu.proofs.Spelled.{read_back}
use Rattle.rpc_pdu.proofs.laws.pdus_read_back.Goals as goal

pub returns : goal.returns
returns c = read_back
