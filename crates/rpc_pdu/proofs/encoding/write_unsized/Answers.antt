use Rattle.std.proofs.Common.{◌∙◌, List, ℕ, [], ap}
use Rattle.rpc_pdu.specs.Headers.{header_item}
use Rattle.rpc_pdu.specs.Encoding.{body_appends}
use Rattle.rpc_pdu.proofs.encoding.write_unsized.Goals as goal

pub returns : goal.returns
returns c =
    let p = c.args.pdu.now in
    c.into_vec.ensures ∙ c.in_ok-put_body.ensures
    ∙ ap (body_appends p.body) (c.in_ok-put_header.ensures ∙ ap (λ (out : List ℕ). header_item.appends out c.header_for.result) (c.over-out.ensures ∙ c.in_ok-with_capacity.ensures.items) ∙ ap (header_item.appends []) c.header_for.ensures)
