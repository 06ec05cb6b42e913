use Rattle.std.proofs.Common.{◌≡◌, ◌∙◌, Ok, sym, ap}
use Rattle.std.proofs.lemmas.Result.{err_from_is_err_and}
use Rattle.rpc_pdu.specs.Headers.{header_item}
use Rattle.rpc_pdu.specs.Decoding.{begun, if_good}
use Rattle.rpc_pdu.proofs.Decoded.{decoded_is}
use Rattle.rpc_pdu.proofs.decoding.decode.Goals as goal

pub returns-in_err-judge-in-Ok-clause-answers : goal.returns-in_err-judge-in-Ok-clause-answers
returns-in_err-judge-in-Ok-clause-answers c =
    let p = err_from_is_err_and c.from_residual.result c.from_residual.ensures.1 in
    let read : header_item.reads c.new.result ≡ Ok (c.in-Ok.header, c.take_header.new.r) = c.in-Ok.ensures in
    let d = decoded_is c.args.bytes.now c.in-Ok.header c.take_header.new.r (rw c.new.ensures at read) in
    rw (p.1, p.2) (d ∙ ap (λ j. if_good j (begun c.args.bytes.now c.in-Ok.header)) (sym c.in_err-judge-in-Ok.ensures.judged))

pub returns-in_ok-judge-in-Ok-clause-answers : goal.returns-in_ok-judge-in-Ok-clause-answers
returns-in_ok-judge-in-Ok-clause-answers c =
    let read : header_item.reads c.new.result ≡ Ok (c.in-Ok.header, c.take_header.new.r) = c.in-Ok.ensures in
    let d = decoded_is c.args.bytes.now c.in-Ok.header c.take_header.new.r (rw c.new.ensures at read) in
    rw (d, sym c.in_ok-judge-in-Ok.ensures.judged) c.pdu_of.ensures.answers
