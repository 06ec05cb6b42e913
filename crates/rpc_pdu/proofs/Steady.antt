-- What `decode` says stays as more bytes come.
use Rattle.std.proofs.Common.{◌≡◌, ℕ, ◌-◌, ◌≤◌, List, ◌++◌, Option, Some, None, Result, Ok, Err, refl, sym, ap, ◌∙◌, drop, take, length, inl, inr, arith, length-append, length-drop}
use Rattle.std.specs.Prelude.{◌⊎◌, slice_range}
use Rattle.std.proofs.lemmas.Bool.{cases_lt}
use Rattle.std.proofs.lemmas.List.{drop-append-le, take-append-le}
use Rattle.ndr_core.specs.Cursor.{Cursor}
use Rattle.ndr_core.specs.Items.{AreBytes}
use Rattle.ndr_core.specs.declared.refusal.NdrBad.{NdrBad}
use Rattle.ndr_core.proofs.Whole.{reads_more}
use Rattle.rpc_pdu.specs.declared.header.Header.{Header}
use Rattle.rpc_pdu.specs.declared.pdu.Pdu.{Pdu}
use Rattle.rpc_pdu.specs.declared.pdu.PduBody.{PduBody}
use Rattle.rpc_pdu.specs.declared.refusal.PduBad.{PduBad}
use Rattle.rpc_pdu.specs.Headers.{header_item, judged}
use Rattle.rpc_pdu.specs.Decoding.{begun, body_reads, decoded, if_good, with_body}
use Rattle.rpc_pdu.proofs.Decoded.{begun_is, begun_none, body_at, decoded_is, no_header, start}
use Rattle.rpc_pdu.proofs.Bodies.{behind}
use Rattle.rpc_pdu.proofs.Lawful.{IsHeader, header_lawful}

abbrev Stays : List ℕ → List ℕ → Type 0
Stays bytes piece = (decoded bytes ≡ Ok None) ⊎ (decoded (bytes ++ piece) ≡ decoded bytes)

body_stays : (bytes piece : List ℕ) (h : Header) → h.length ≤ length bytes → slice_range (bytes ++ piece) 16 h.length ≡ slice_range bytes 16 h.length
body_stays bytes piece h le =
    elim (cases_lt h.length 16) [
      | inl lt ↦ let none : h.length - 16 ≡ 0 = omega arith in rw none refl
      | inr long ↦ ap (take (h.length - 16)) (drop-append-le 16 bytes piece (omega arith)) ∙ take-append-le (h.length - 16) (drop 16 bytes) piece (omega (arith, length-drop 16 bytes))
    ]

-- behind a good header
behind_stays : (bytes piece : List ℕ) (h : Header) → (begun bytes h ≡ Ok None) ⊎ (begun (bytes ++ piece) h ≡ begun bytes h)
behind_stays bytes piece h =
    elim (cases_lt (length bytes) h.length) [
      | inl lt ↦ inl (begun_none bytes h lt)
      | inr le ↦ inr (begun_is (bytes ++ piece) h (omega (arith, length-append bytes piece)) ∙ ap (λ (r : List ℕ). with_body h (body_reads h (behind r))) (body_stays bytes piece h le) ∙ sym (begun_is bytes h le))
    ]

judge_stays : (bytes piece : List ℕ) (h : Header) (judge : Result (Unit {0}) PduBad) → decoded bytes ≡ if_good judge (begun bytes h) → decoded (bytes ++ piece) ≡ if_good judge (begun (bytes ++ piece) h) → Stays bytes piece
judge_stays bytes piece h (Err e) one more = inr (more ∙ sym one)
judge_stays bytes piece h (Ok u) one more =
    elim (behind_stays bytes piece h) [
      | inl none ↦ inl (one ∙ none)
      | inr same ↦ inr (more ∙ same ∙ sym one)
    ]

header_stays : (bytes piece : List ℕ) → AreBytes bytes → (read : Result (Header × Cursor) NdrBad) → header_item.reads (start bytes) ≡ read → Stays bytes piece
header_stays bytes piece are (Err e) h = inl (no_header bytes e h)
header_stays bytes piece are (Ok x) h =
    judge_stays bytes piece x.0 (judged x.0) (decoded_is bytes x.0 x.1 h) (decoded_is (bytes ++ piece) x.0 (record { at = x.1.at; rest = x.1.rest ++ piece }) (reads_more header_item IsHeader header_lawful (start bytes) x.1 x.0 piece are h))

-- a PDU's bytes are there
body_there : (h : Header) (read : Result PduBody PduBad) (a : Pdu) (n : ℕ) → with_body h read ≡ Ok (Some (a, n)) → h.length ≡ n
body_there h (Ok body) a n e = let pair : (record { call = h.call; flags = h.flags; body = body }, h.length) ≡ (a, n) = cc in ap (λ (p : Pdu × ℕ). p.1) pair
body_there h (Err bad) a n e = absurd cc

some_none : (read : Result (Option (Pdu × ℕ)) PduBad) (a : Pdu) (n : ℕ) → read ≡ Ok None → read ≡ Ok (Some (a, n)) → ⊥
some_none read a n p q = cc

behind_there : (bytes : List ℕ) (h : Header) (a : Pdu) (n : ℕ) → begun bytes h ≡ Ok (Some (a, n)) → n ≤ length bytes
behind_there bytes h a n e =
    elim (cases_lt (length bytes) h.length) [
      | inl lt ↦ let none : begun bytes h ≡ Ok None = begun_none bytes h lt in absurd (some_none (begun bytes h) a n none e)
      | inr le ↦ omega (arith, body_there h (body_reads h (body_at bytes h)) a n (sym (begun_is bytes h le) ∙ e))
    ]

judge_there : (bytes : List ℕ) (h : Header) (judge : Result (Unit {0}) PduBad) (a : Pdu) (n : ℕ) → if_good judge (begun bytes h) ≡ Ok (Some (a, n)) → n ≤ length bytes
judge_there bytes h (Err bad) a n e = absurd cc
judge_there bytes h (Ok u) a n e = behind_there bytes h a n e

header_there : (bytes : List ℕ) (read : Result (Header × Cursor) NdrBad) → header_item.reads (start bytes) ≡ read → (a : Pdu) (n : ℕ) → decoded bytes ≡ Ok (Some (a, n)) → n ≤ length bytes
header_there bytes (Err bad) h a n e = let none : decoded bytes ≡ Ok None = no_header bytes bad h in absurd cc
header_there bytes (Ok x) h a n e = judge_there bytes x.0 (judged x.0) a n (sym (decoded_is bytes x.0 x.1 h) ∙ e)

pub stays : (bytes piece : List ℕ) → AreBytes bytes → (decoded bytes ≡ Ok None) ⊎ (decoded (bytes ++ piece) ≡ decoded bytes)
stays bytes piece are = header_stays bytes piece are (header_item.reads (start bytes)) refl

pub there : (bytes : List ℕ) (p : Pdu) (size : ℕ) → decoded bytes ≡ Ok (Some (p, size)) → size ≤ length bytes
there bytes p size e = header_there bytes (header_item.reads (start bytes)) refl p size e
