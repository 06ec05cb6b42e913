use Rattle.std.proofs.Common.{◌∙◌, Ok, ap, arith}
use Rattle.rpc_pdu.proofs.Writable.{writable}
use Rattle.wire_bench.proofs.work.pdu_of.Goals as goal

pub returns-in-Ok-Some : goal.returns-in-Ok-Some
returns-in-Ok-Some c = writable c.args.bytes.now c.in-Ok-Some.pdu _ (λ i. omega (arith, c.type_inv.bytes i)) (c.in-Ok-Some.ensures.answers ∙ ap (λ found. Ok found) c.in-Ok-Some.field-0-is)
