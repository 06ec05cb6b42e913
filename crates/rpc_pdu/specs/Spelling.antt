-- Which bytes spell a PDU, apart from how they are read and written.
use Rattle.std.specs.Prelude.{◌≡◌, ◌<◌, ◌≤◌, ◌^◌, ◌++◌, ℕ, List, Ok, bit_and, length}
use Rattle.ndr_core.specs.Items.{Item}
use Rattle.rpc_pdu.specs.Headers.{header_item, judged}
use Rattle.rpc_pdu.specs.Bodies.{IsAck, IsBind, IsFault, IsRequest, IsResponse, ack_item, bind_item, fault_item, nak_item, request_item, response_item}
use Rattle.rpc_pdu.specs.Encoding.{encoded}
use Rattle.rpc_pdu.specs.declared.header.Header.{Header}
use Rattle.rpc_pdu.specs.declared.pdu.Pdu.{Pdu}
use Rattle.rpc_pdu.specs.declared.pdu.PduBody.{PduBody}
use Rattle.rpc_pdu.specs.declared.pdu.PduBody.TheVariants as bodies

-- the text begins with a spelling of the value from the sixteenth byte of a PDU on
abbrev pub Begins : {A : Type 0} → Item A → A → List ℕ → Type 0
Begins item value text = (front : List ℕ) × (behind : List ℕ) × (text ≡ front ++ behind) × item.Spells 16 value front

-- the text behind a header spells a body; what is left over is free, but for a bind
abbrev pub SpellsBody : Header → PduBody → List ℕ → Type 0
SpellsBody h (bodies.Request r) text = (h.kind ≡ 0) × (bit_and h.flags 0x80 ≡ 0) × Begins (request_item (length text)) r text
SpellsBody h (bodies.Response r) text = (h.kind ≡ 2) × Begins (response_item (length text)) r text
SpellsBody h (bodies.Fault f) text = (h.kind ≡ 3) × Begins fault_item f text
SpellsBody h (bodies.Bind b) text = (h.kind ≡ 11) × bind_item.Spells 16 b text
SpellsBody h (bodies.BindAck a) text = (h.kind ≡ 12) × Begins ack_item a text
SpellsBody h (bodies.BindNak n) text = (h.kind ≡ 13) × Begins nak_item n text
SpellsBody h bodies.Shutdown text = h.kind ≡ 17
SpellsBody h bodies.CoCancel text = h.kind ≡ 18
SpellsBody h bodies.Orphaned text = h.kind ≡ 19

-- a good header, and behind it the body
pub record Spells (p : Pdu) (text : List ℕ) : Type 0 where
  pub header : Header
  pub head : List ℕ
  pub tail : List ℕ
  pub parts : text ≡ head ++ tail
  pub spells : header_item.Spells 0 header head
  pub good : judged header ≡ Ok tt
  pub call : header.call ≡ p.call
  pub flags : header.flags ≡ p.flags
  pub length : header.length ≡ length text
  pub body : SpellsBody header p.body tail

-- a body whose numbers have room
abbrev pub IsBody : ℕ → PduBody → Type 0
IsBody flags (bodies.Request r) = IsRequest r × (bit_and flags 0x80 ≡ 0)
IsBody flags (bodies.Response r) = IsResponse r
IsBody flags (bodies.Fault f) = IsFault f
IsBody flags (bodies.Bind b) = IsBind b
IsBody flags (bodies.BindAck a) = IsAck a
IsBody flags (bodies.BindNak n) = n.reason < 2 ^ 16
IsBody flags other = Unit {0}

-- a PDU that has room in a fragment, and whose numbers have room in their fields
pub record IsPdu (p : Pdu) : Type 0 where
  pub call : p.call < 2 ^ 32
  pub flags : p.flags < 2 ^ 8
  pub body : IsBody p.flags p.body
  pub short : length (encoded p) ≤ 5840
