-- What bytes are read as.
use Rattle.std.specs.Prelude.{◌≡◌, ◌-◌, ◌==◌, ℕ, List, Option, Some, None, Result, Ok, Err, bit_and, length, nat_lt, slice_range, if◌then◌else◌}
use Rattle.ndr_core.specs.Cursor.{Cursor}
use Rattle.ndr_core.specs.Refusals.{place_of}
use Rattle.ndr_core.specs.Items.{Item}
use Rattle.ndr_core.specs.declared.refusal.NdrBad.{NdrBad}
use Rattle.rpc_pdu.specs.Headers.{header_item, judged}
use Rattle.rpc_pdu.specs.Bodies.{ack_item, bind_item, fault_item, nak_item, request_item, response_item}
use Rattle.rpc_pdu.specs.declared.header.Header.{Header}
use Rattle.rpc_pdu.specs.declared.pdu.Pdu.{Pdu}
use Rattle.rpc_pdu.specs.declared.pdu.PduBody.{PduBody}
use Rattle.rpc_pdu.specs.declared.pdu.PduBody.TheVariants as bodies
use Rattle.rpc_pdu.specs.declared.refusal.PduBad.{PduBad}
use Rattle.rpc_pdu.specs.declared.refusal.PduBad.TheVariants.{Body}
use Rattle.rpc_pdu.specs.declared.refusal.PduError.{PduError}
use Rattle.rpc_pdu.specs.declared.refusal.PduError.TheVariants as errors

-- the refusal is right, unless memory ran out
abbrev pub FailsOrMemory : {Y : Type 0} → PduError → Result Y PduBad → Type 0
FailsOrMemory errors.Memory answer = Unit {0}
FailsOrMemory (errors.Bad bad) answer = answer ≡ Err bad

-- the answer is right, unless memory ran out
abbrev pub AnswersOrMemory : {Y : Type 0} → Result Y PduError → Result Y PduBad → Type 0
AnswersOrMemory (Ok x) answer = answer ≡ Ok x
AnswersOrMemory (Err e) answer = FailsOrMemory e answer

-- ---- bodies

-- go on with a body's value, unless an item of it was refused
abbrev pub in_body : {A B : Type 0} → (A → Cursor → Result B PduBad) → Result (A × Cursor) NdrBad → Result B PduBad
in_body next (Ok x) = next x.0 x.1
in_body next (Err e) = Err (Body (place_of e))

-- a body that may have bytes behind it
abbrev pub item_reads : {A : Type 0} → Item A → (A → PduBody) → Cursor → Result PduBody PduBad
item_reads item body c = in_body (λ value after. Ok (body value)) (item.reads c)

-- one that may not
abbrev pub bind_reads : Cursor → Result PduBody PduBad
bind_reads c = in_body (λ bind after. if length after.rest == 0 then Ok (bodies.Bind bind) else Err (Body after.at)) (bind_item.reads c)

-- a request has no object UUID, which is looked at first
abbrev pub request_reads : Header → Cursor → Result PduBody PduBad
request_reads h c = if bit_and h.flags 0x80 == 0 then item_reads (request_item (h.length - 16)) bodies.Request c else Err (Body 3)

abbrev pub response_reads : Header → Cursor → Result PduBody PduBad
response_reads h c = item_reads (response_item (h.length - 16)) bodies.Response c

-- the body of the kind that the header says
abbrev pub body_reads : Header → Cursor → Result PduBody PduBad
body_reads h c =
    if h.kind == 0 then request_reads h c
    else (if h.kind == 2 then response_reads h c
    else (if h.kind == 3 then item_reads fault_item bodies.Fault c
    else (if h.kind == 11 then bind_reads c
    else (if h.kind == 12 then item_reads ack_item bodies.BindAck c
    else (if h.kind == 13 then item_reads nak_item bodies.BindNak c
    else (if h.kind == 17 then Ok bodies.Shutdown
    else (if h.kind == 18 then Ok bodies.CoCancel
    else Ok bodies.Orphaned)))))))

-- ---- whole PDUs

-- the PDU of a header and a body
abbrev pub with_body : Header → Result PduBody PduBad → Result (Option (Pdu × ℕ)) PduBad
with_body h (Ok body) = Ok (Some (record { call = h.call; flags = h.flags; body = body }, h.length))
with_body h (Err bad) = Err bad

-- behind a good header
abbrev pub begun : List ℕ → Header → Result (Option (Pdu × ℕ)) PduBad
begun bytes h =
    if nat_lt (length bytes) h.length then Ok None
    else with_body h (body_reads h (record { at = 16; rest = slice_range bytes 16 h.length }))

-- go on behind a header that is good
abbrev pub if_good : Result (Unit {0}) PduBad → Result (Option (Pdu × ℕ)) PduBad → Result (Option (Pdu × ℕ)) PduBad
if_good (Ok good) next = next
if_good (Err bad) next = Err bad

-- fewer bytes than a header has are the beginning of a PDU
abbrev pub after_header : List ℕ → Result (Header × Cursor) NdrBad → Result (Option (Pdu × ℕ)) PduBad
after_header bytes (Ok h) = if_good (judged h.0) (begun bytes h.0)
after_header bytes (Err e) = Ok None

-- the PDU at the front of bytes and how many bytes it has, none where it isn't there in full, or the first thing that is wrong
unfoldable pub decoded : List ℕ → Result (Option (Pdu × ℕ)) PduBad
decoded bytes = after_header bytes (header_item.reads (record { at = 0; rest = bytes }))
