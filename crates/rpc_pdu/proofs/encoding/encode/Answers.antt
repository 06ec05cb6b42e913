use Rattle.std.proofs.Common.{◌≤◌, ◌∙◌, List, ℕ, [], ap, length, subst, sym}
use Rattle.rpc_pdu.specs.Headers.{header_item}
use Rattle.rpc_pdu.specs.Encoding.{encoded, encoded_as, header_for, with_length}
use Rattle.rpc_pdu.proofs.Sizes.{body_fits}
use Rattle.rpc_pdu.proofs.Spelled.{has_header, lengthened}
use Rattle.rpc_pdu.proofs.encoding.encode.Goals as goal

pub write_unsized-requires : goal.write_unsized-requires
write_unsized-requires c = body_fits (header_item.appends [] (header_for c.args.pdu.now 0)) c.args.pdu.now.body c.requires.transfers c.requires.short

pub with_length-requires-clause-long : goal.with_length-requires-clause-long
with_length-requires-clause-long c = subst (λ (bytes : List ℕ). 16 ≤ length bytes) (sym c.in_ok-write_unsized.ensures) (has_header c.args.pdu.now)

pub returns : goal.returns
unfolding encoded
returns c =
    let p = c.args.pdu.now in
    c.with_length.ensures ∙ ap (λ (bytes : List ℕ). with_length (length bytes) bytes) c.in_ok-write_unsized.ensures ∙ lengthened p (length (encoded_as p 0))
