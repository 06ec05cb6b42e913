use Rattle.rpc_pdu.proofs.Writable.{writable}
use Rattle.rpc_pdu.proofs.laws.what_is_read_is_writable.Goals as goal

pub returns : goal.returns
returns c = writable
