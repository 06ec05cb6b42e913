use Rattle.std.proofs.Common.{arith}
use Rattle.ndr_frs.proofs.Requests.{read_stated}
use Rattle.ndr_frs.proofs.request_reading.read_request.Goals as goal

pub returns-clause-stated : goal.returns-clause-stated
returns-clause-stated c = read_stated c.args.opnum c.args.stub.now c.new-r.result c.take_request.new.r c.in_ok-request.request (λ i. omega (arith, c.type_inv.stub i)) c.new-r.ensures c.in_ok-request.ensures c.if-not-is_done.ensures
