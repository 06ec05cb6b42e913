-- The header and the bodies keep the laws of items.
use Rattle.std.proofs.Common.{◌≡◌, ◌∙◌, ℕ, ◌+◌, ◌-◌, ◌<◌, ◌^◌, ◌++◌, List, Ok, length, refl, sym, ap, append_assoc, arith, length-append, lit<}
use Rattle.std.proofs.lemmas.List.{append-nil}
use Rattle.std.specs.Int.{w16}
use Rattle.ndr_core.specs.Items.{◌>>=◌, followed, number, skip}
use Rattle.ndr_core.specs.Laws.{IsLawful}
use Rattle.ndr_core.proofs.Arrays.{lawful_many}
use Rattle.ndr_core.proofs.Bytes.{bytes_of_lawful, number_8_at_lawful, number_8_lawful, number_16_lawful, number_32_lawful, skip_lawful}
use Rattle.ndr_core.proofs.Identifiers.{guid_lawful}
use Rattle.ndr_core.proofs.Steps.{bind_ok, done}
use Rattle.ndr_core.proofs.Words.{◌⊗◌, lawful_seen, lawful_then, lawful_where}
use Rattle.rpc_pdu.specs.declared.header.Header.{Header}
use Rattle.rpc_pdu.specs.Headers.{header_item}
use Rattle.rpc_pdu.specs.Bodies.{IsAck, IsBind, IsElement, IsFault, IsRequest, IsResponse, IsResult, IsSyntax, ack_item, address, bind_item, element_item, fault_item, nak_item, request_item, response_item, result_item, syntax_item}

-- a header whose numbers have room
pub record IsHeader (h : Header) : Type 0 where
  pub version : h.version < 2 ^ 8
  pub minor : h.minor < 2 ^ 8
  pub kind : h.kind < 2 ^ 8
  pub flags : h.flags < 2 ^ 8
  pub representation : h.representation < 2 ^ 16
  pub length : h.length < 2 ^ 16
  pub auth : h.auth < 2 ^ 16
  pub call : h.call < 2 ^ 32

pub header_lawful : IsLawful header_item IsHeader
header_lawful =
    lawful_where IsHeader (λ h is. (refl, (is.version, (is.minor, (is.kind, (is.flags, (is.representation, (tt, (is.length, (is.auth, is.call))))))))))
    (lawful_seen _ _ (λ at a text spells. refl)
    (number_8_lawful ⊗ (number_8_lawful ⊗ (number_8_lawful ⊗ (number_8_lawful ⊗ (number_16_lawful ⊗ (skip_lawful 2 ⊗ (number_16_lawful ⊗ (number_16_lawful ⊗ number_32_lawful)))))))))

syntax_lawful : IsLawful syntax_item IsSyntax
syntax_lawful =
    lawful_where IsSyntax (λ s is. (refl, (is.id, is.version)))
    (lawful_seen _ _ (λ at a text spells. refl) (guid_lawful ⊗ number_32_lawful))

element_lawful : IsLawful element_item IsElement
element_lawful =
    lawful_where IsElement (λ e is. (refl, ((is.id, (is.count, (tt, is.interface))), (refl, is.each))))
    (lawful_seen _ _ (λ at a text spells. ap (λ (n : ℕ). ((a.0.0, (n, (tt, a.0.1.1.1))), a.1)) spells.4.0)
    (lawful_then (number_16_lawful ⊗ (number_8_lawful ⊗ (skip_lawful 1 ⊗ syntax_lawful))) (λ head. lawful_many head.1.0 syntax_lawful)))

pub bind_lawful : IsLawful bind_item IsBind
bind_lawful =
    lawful_where IsBind (λ b is. (refl, (is.xmit, (is.recv, (is.group, ((is.count, tt), (refl, is.each)))))))
    (lawful_seen _ _ (λ at a text spells. ap (λ (n : ℕ). (a.0, (a.1.0, (a.1.1.0, ((n, tt), a.1.1.1.1))))) spells.4.4.4.4.0)
    (number_16_lawful ⊗ (number_16_lawful ⊗ (number_32_lawful ⊗ lawful_then (number_8_lawful ⊗ skip_lawful 3) (λ head. lawful_many head.0 element_lawful)))))

result_lawful : IsLawful result_item IsResult
result_lawful =
    lawful_where IsResult (λ r is. (refl, (is.result, (is.reason, is.transfer))))
    (lawful_seen _ _ (λ at a text spells. refl) (number_16_lawful ⊗ (number_16_lawful ⊗ syntax_lawful)))

sized_address : IsLawful (followed (number w16) skip) (λ p. (p.0 < 2 ^ 16) × Unit {0})
sized_address = lawful_then number_16_lawful skip_lawful

address_lawful : IsLawful address (λ none. Unit {0})
address_lawful = record {
  sound = λ old new a are e.
      let g = bind_ok ((number w16).reads old) (λ size. (skip size.0).reads size.1) (a, new) e in
      let both : (followed (number w16) skip).reads old ≡ Ok ((g.0.0, a), new) =
      ap (λ r. r >>= λ x. (skip x.0).reads x.1 >>= λ y. done ((x.0, y.0), y.1)) g.1 ∙ ap (λ r. r >>= λ y. done ((g.0.0, y.0), y.1)) g.2 in
      let t = sized_address.sound old new (g.0.0, a) are both in
      record { text = t.text; parts = t.parts; place = t.place; bytes = t.bytes; spells = (g.0.0, t.spells) };
  whole = λ at a text rest spells.
      let s = spells.1 in
      let regroup : text ++ rest ≡ s.0 ++ (s.1 ++ rest) = ap (λ (t : List ℕ). t ++ rest) s.2 ∙ append_assoc s.0 s.1 rest in
      let size = number_16_lawful.whole at spells.0 s.0 (s.1 ++ rest) s.3 in
      let skipped = (skip_lawful spells.0).whole (at + length s.0) a s.1 rest s.4 in
      let place : at + length s.0 + length s.1 ≡ at + length text = omega (arith, ap length s.2, length-append s.0 s.1) in
      ap (λ (t : List ℕ). address.reads (record { at = at; rest = t })) regroup ∙ ap (λ r. r >>= λ x. (skip x.0).reads x.1) size ∙ skipped
      ∙ ap (λ (n : ℕ). done (a, record { at = n; rest = rest })) place;
  written = λ out a fits.
      let w = sized_address.written out (0, tt) (lit< tt, tt) in
      record { text = w.text; parts = sym (append-nil _) ∙ w.parts; spells = (0, w.spells) };
  placed = λ x y a e. number_16_lawful.placed x y 0 e;
}

pub ack_lawful : IsLawful ack_item IsAck
ack_lawful =
    lawful_where IsAck (λ a is. (refl, (is.xmit, (is.recv, (is.group, (tt, ((is.count, tt), (refl, is.each))))))))
    (lawful_seen _ _ (λ at a text spells. ap (λ (n : ℕ). (a.0, (a.1.0, (a.1.1.0, (tt, ((n, tt), a.1.1.1.1.1)))))) spells.4.4.4.4.4.0)
    (number_16_lawful ⊗ (number_16_lawful ⊗ (number_32_lawful ⊗ (address_lawful ⊗ lawful_then (number_8_at_lawful 4 ⊗ skip_lawful 3) (λ head. lawful_many head.0 result_lawful))))))

pub nak_lawful : IsLawful nak_item (λ n. n.reason < 2 ^ 16)
nak_lawful = lawful_where (λ n. n.reason < 2 ^ 16) (λ n is. (refl, is)) (lawful_seen _ _ (λ at a text spells. refl) number_16_lawful)

pub fault_lawful : IsLawful fault_item IsFault
fault_lawful =
    lawful_where IsFault (λ f is. (refl, (tt, (is.context, (tt, (tt, (is.status, tt)))))))
    (lawful_seen _ _ (λ at a text spells. refl) (skip_lawful 4 ⊗ (number_16_lawful ⊗ (skip_lawful 1 ⊗ (skip_lawful 1 ⊗ (number_32_lawful ⊗ skip_lawful 4))))))

pub request_lawful : (size : ℕ) → IsLawful (request_item size) (λ r. IsRequest r × (length r.stub ≡ size - 8))
request_lawful size =
    lawful_where (λ r. IsRequest r × (length r.stub ≡ size - 8)) (λ r is. (refl, (is.0.hint, (is.0.context, (is.0.opnum, (is.1, is.0.stub))))))
    (lawful_seen _ _ (λ at a text spells. refl) (number_32_lawful ⊗ (number_16_lawful ⊗ (number_16_lawful ⊗ bytes_of_lawful (size - 8)))))

pub response_lawful : (size : ℕ) → IsLawful (response_item size) (λ r. IsResponse r × (length r.stub ≡ size - 8))
response_lawful size =
    lawful_where (λ r. IsResponse r × (length r.stub ≡ size - 8)) (λ r is. (refl, (is.0.hint, (is.0.context, (tt, (tt, (is.1, is.0.stub)))))))
    (lawful_seen _ _ (λ at a text spells. refl) (number_32_lawful ⊗ (number_16_lawful ⊗ (skip_lawful 1 ⊗ (skip_lawful 1 ⊗ bytes_of_lawful (size - 8))))))
