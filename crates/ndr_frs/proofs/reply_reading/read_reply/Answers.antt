use Rattle.std.proofs.Common.{arith}
use Rattle.ndr_frs.proofs.Replies.{read_stated}
use Rattle.ndr_frs.proofs.reply_reading.read_reply.Goals as goal

pub returns-clause-stated : goal.returns-clause-stated
returns-clause-stated c = read_stated c.args.opnum c.args.stub.now c.new-r.result c.take_reply.new.r c.in_ok-reply.reply (λ i. omega (arith, c.type_inv.stub i)) c.new-r.ensures c.in_ok-reply.ensures c.if-not-is_done.ensures
