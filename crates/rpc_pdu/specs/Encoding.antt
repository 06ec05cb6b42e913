-- What PDUs are written as.
use Rattle.std.specs.Prelude.{◌≡◌, ◌<◌, ◌++◌, ℕ, Bool, List, [], ◌∷◌, bit_and, length, slice_set, true}
use Rattle.std.specs.Int.{byte_at}
use Rattle.std.specs.List.{AllByRecursion}
use Rattle.rpc_pdu.specs.Headers.{header_item}
use Rattle.rpc_pdu.specs.Bodies.{ack_item, bind_item, fault_item, fits_ack, fits_bind, nak_item, request_item, response_item}
use Rattle.rpc_pdu.specs.declared.bind.ContextElem.{ContextElem}
use Rattle.rpc_pdu.specs.declared.header.Header.{Header}
use Rattle.rpc_pdu.specs.declared.pdu.Pdu.{Pdu}
use Rattle.rpc_pdu.specs.declared.pdu.PduBody.{PduBody}
use Rattle.rpc_pdu.specs.declared.pdu.PduBody.TheVariants as bodies

-- the kind of a body
abbrev pub kind_of : PduBody → ℕ
kind_of (bodies.Request request) = 0
kind_of (bodies.Response response) = 2
kind_of (bodies.Fault fault) = 3
kind_of (bodies.Bind bind) = 11
kind_of (bodies.BindAck ack) = 12
kind_of (bodies.BindNak nak) = 13
kind_of bodies.Shutdown = 17
kind_of bodies.CoCancel = 18
kind_of bodies.Orphaned = 19

-- the header of a PDU that has so many bytes
abbrev pub header_for : Pdu → ℕ → Header
header_for p size = record { version = 5; minor = 0; kind = kind_of p.body; flags = p.flags; representation = 0x10; length = size; auth = 0; call = p.call }

-- a body behind bytes; behind a reason stands the one version that is spoken
abbrev pub body_appends : PduBody → List ℕ → List ℕ
body_appends (bodies.Request request) out = (request_item 0).appends out request
body_appends (bodies.Response response) out = (response_item 0).appends out response
body_appends (bodies.Fault fault) out = fault_item.appends out fault
body_appends (bodies.Bind bind) out = bind_item.appends out bind
body_appends (bodies.BindAck ack) out = ack_item.appends out ack
body_appends (bodies.BindNak nak) out = nak_item.appends out nak ++ 1 ∷ 5 ∷ 0 ∷ []
body_appends bodies.Shutdown out = out
body_appends bodies.CoCancel out = out
body_appends bodies.Orphaned out = out

-- the bytes of a PDU with this length in its header
abbrev pub encoded_as : Pdu → ℕ → List ℕ
encoded_as p size = body_appends p.body (header_item.appends [] (header_for p size))

-- with its own
unfoldable pub encoded : Pdu → List ℕ
encoded p = encoded_as p (length (encoded_as p 0))

-- bytes with a length in its place in the header
abbrev pub with_length : ℕ → List ℕ → List ℕ
with_length size bytes = slice_set (slice_set bytes 8 (byte_at 0 size)) 9 (byte_at 1 size)

-- how many bytes of a stub a body has
abbrev pub stub_length : PduBody → ℕ
stub_length (bodies.Request request) = length request.stub
stub_length (bodies.Response response) = length response.stub
stub_length other = 0

-- ---- what has room

-- counts that a byte has room for
abbrev pub fits_body : PduBody → Bool
fits_body (bodies.Bind bind) = fits_bind bind
fits_body (bodies.BindAck ack) = fits_ack ack
fits_body other = true

-- each element has at most 255 transfer syntaxes
abbrev pub HasFewTransfers : PduBody → Type 0
HasFewTransfers (bodies.Bind bind) = AllByRecursion (λ (e : ContextElem). length e.transfers < 256) bind.contexts
HasFewTransfers other = Unit {0}

-- a request's flags say nothing of an object UUID
abbrev pub LacksObject : ℕ → PduBody → Type 0
LacksObject flags (bodies.Request request) = bit_and flags 0x80 ≡ 0
LacksObject flags other = Unit {0}

abbrev pub HasNoObject : Pdu → Type 0
HasNoObject p = LacksObject p.flags p.body
