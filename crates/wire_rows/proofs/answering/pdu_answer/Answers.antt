use Rattle.std.proofs.Common.{◌∙◌, Ok, ap, arith}
use Rattle.rpc_pdu.proofs.Writable.{writable}
use Rattle.wire_rows.proofs.answering.pdu_answer.Goals as goal

pub encode-requires-clause-transfers : goal.encode-requires-clause-transfers
encode-requires-clause-transfers c = (writable c.args.bytes.now c.in-Ok-Some.pdu c.in-Ok-Some.size (λ i. omega (arith, c.type_inv.bytes i)) (c.in-Ok-Some.ensures.answers ∙ ap (λ found. Ok found) c.in-Ok-Some.field-0-is)).transfers

pub encode-requires-clause-object : goal.encode-requires-clause-object
encode-requires-clause-object c = (writable c.args.bytes.now c.in-Ok-Some.pdu c.in-Ok-Some.size (λ i. omega (arith, c.type_inv.bytes i)) (c.in-Ok-Some.ensures.answers ∙ ap (λ found. Ok found) c.in-Ok-Some.field-0-is)).object

pub encode-requires-clause-short : goal.encode-requires-clause-short
encode-requires-clause-short c = (writable c.args.bytes.now c.in-Ok-Some.pdu c.in-Ok-Some.size (λ i. omega (arith, c.type_inv.bytes i)) (c.in-Ok-Some.ensures.answers ∙ ap (λ found. Ok found) c.in-Ok-Some.field-0-is)).short
