-- The bodies of PDUs, from their sixteenth byte on.
use Rattle.std.specs.Prelude.{◌-◌, ◌<◌, ◌^◌, ◌&&◌, ℕ, Bool, length, nat_lt, true}
use Rattle.std.specs.List.{AllByRecursion}
use Rattle.std.specs.Int.{w8, w16, w32}
use Rattle.ndr_core.specs.Items.{◌>>=◌, ◌⨾◌, AreBytes, Item, bytes_of, followed, number, number_at, seen, skip}
use Rattle.ndr_core.specs.Arrays.{all_fit, many}
use Rattle.ndr_core.specs.Identifiers.{guid_item}
use Rattle.rpc_pdu.specs.declared.bind.Syntax.{Syntax}
use Rattle.rpc_pdu.specs.declared.bind.ContextElem.{ContextElem}
use Rattle.rpc_pdu.specs.declared.bind.Bind.{Bind}
use Rattle.rpc_pdu.specs.declared.bind_ack.ContextResult.{ContextResult}
use Rattle.rpc_pdu.specs.declared.bind_ack.BindAck.{BindAck}
use Rattle.rpc_pdu.specs.declared.bind_ack.BindNak.{BindNak}
use Rattle.rpc_pdu.specs.declared.calls.Request.{Request}
use Rattle.rpc_pdu.specs.declared.calls.Response.{Response}
use Rattle.rpc_pdu.specs.declared.calls.Fault.{Fault}

-- ---- bind

-- UUID, version
abbrev pub syntax_item : Item Syntax
syntax_item = seen (λ t. record { id = t.0; version = t.1 }) (λ s. (s.id, s.version)) (guid_item ⨾ number w32)

-- id, count of transfer syntaxes, a reserved byte, abstract syntax; the transfer syntaxes
abbrev pub element_item : Item ContextElem
element_item =
    seen (λ t. record { id = t.0.0; interface = t.0.1.1.1; transfers = t.1 }) (λ e. ((e.id, (length e.transfers, (tt, e.interface))), e.transfers))
    (followed (number w16 ⨾ (number w8 ⨾ (skip 1 ⨾ syntax_item))) (λ head. many syntax_item head.1.0))

-- longest fragments sent and received, group, count of elements, three reserved bytes; the elements
abbrev pub bind_item : Item Bind
bind_item =
    seen (λ t. record { xmit = t.0; recv = t.1.0; group = t.1.1.0; contexts = t.1.1.1.1 }) (λ b. (b.xmit, (b.recv, (b.group, ((length b.contexts, tt), b.contexts)))))
    (number w16 ⨾ (number w16 ⨾ (number w32 ⨾ followed (number w8 ⨾ skip 3) (λ head. many element_item head.0))))

-- counts that a byte has room for
abbrev pub fits_element : ContextElem → Bool
fits_element e = nat_lt (length e.transfers) 256 && all_fit (λ s. true) e.transfers

abbrev pub fits_bind : Bind → Bool
fits_bind b = nat_lt (length b.contexts) 256 && all_fit fits_element b.contexts

-- ---- bind_ack and bind_nak

-- result, reason, transfer syntax
abbrev pub result_item : Item ContextResult
result_item =
    seen (λ t. record { result = t.0; reason = t.1.0; transfer = t.1.1 }) (λ r. (r.result, (r.reason, r.transfer)))
    (number w16 ⨾ (number w16 ⨾ syntax_item))

-- the secondary address, so many bytes behind their number: free when it is read, none when it is written
abbrev pub address : Item (Unit {0})
address = record {
  reads = λ c. (number w16).reads c >>= λ size. (skip size.0).reads size.1;
  appends = λ out none. (number w16).appends out 0;
  Spells = λ at none text. (size : ℕ) × (followed (number w16) skip).Spells at (size, tt) text;
}

-- longest fragments sent and received, group, secondary address, count of results behind padding to 4, three reserved bytes; the results
abbrev pub ack_item : Item BindAck
ack_item =
    seen (λ t. record { xmit = t.0; recv = t.1.0; group = t.1.1.0; results = t.1.1.1.1.1 }) (λ a. (a.xmit, (a.recv, (a.group, (tt, ((length a.results, tt), a.results))))))
    (number w16 ⨾ (number w16 ⨾ (number w32 ⨾ (address ⨾ followed (number_at 4 w8 ⨾ skip 3) (λ head. many result_item head.0)))))

abbrev pub fits_ack : BindAck → Bool
fits_ack a = nat_lt (length a.results) 256 && all_fit (λ r. true) a.results

-- reason
abbrev pub nak_item : Item BindNak
nak_item = seen (λ reason. record { reason = reason }) (λ n. n.reason) (number w16)

-- ---- calls

-- hint, context, opnum, stub, in a body of so many bytes
abbrev pub request_item : ℕ → Item Request
request_item size =
    seen (λ t. record { hint = t.0; context = t.1.0; opnum = t.1.1.0; stub = t.1.1.1 }) (λ r. (r.hint, (r.context, (r.opnum, r.stub))))
    (number w32 ⨾ (number w16 ⨾ (number w16 ⨾ bytes_of (size - 8))))

-- hint, context, count of cancels, a reserved byte, stub, in a body of so many bytes
abbrev pub response_item : ℕ → Item Response
response_item size =
    seen (λ t. record { hint = t.0; context = t.1.0; stub = t.1.1.1.1 }) (λ r. (r.hint, (r.context, (tt, (tt, r.stub)))))
    (number w32 ⨾ (number w16 ⨾ (skip 1 ⨾ (skip 1 ⨾ bytes_of (size - 8)))))

-- hint, context, count of cancels, a reserved byte, status, four reserved bytes
abbrev pub fault_item : Item Fault
fault_item =
    seen (λ t. record { context = t.1.0; status = t.1.1.1.1.0 }) (λ f. (tt, (f.context, (tt, (tt, (f.status, tt))))))
    (skip 4 ⨾ (number w16 ⨾ (skip 1 ⨾ (skip 1 ⨾ (number w32 ⨾ skip 4)))))

-- ---- values whose numbers have room

pub record IsSyntax (s : Syntax) : Type 0 where
  pub id : s.id < 2 ^ 128
  pub version : s.version < 2 ^ 32

pub record IsElement (e : ContextElem) : Type 0 where
  pub id : e.id < 2 ^ 16
  pub interface : IsSyntax e.interface
  pub count : length e.transfers < 2 ^ 8
  pub each : AllByRecursion IsSyntax e.transfers

pub record IsBind (b : Bind) : Type 0 where
  pub xmit : b.xmit < 2 ^ 16
  pub recv : b.recv < 2 ^ 16
  pub group : b.group < 2 ^ 32
  pub count : length b.contexts < 2 ^ 8
  pub each : AllByRecursion IsElement b.contexts

pub record IsResult (r : ContextResult) : Type 0 where
  pub result : r.result < 2 ^ 16
  pub reason : r.reason < 2 ^ 16
  pub transfer : IsSyntax r.transfer

pub record IsAck (a : BindAck) : Type 0 where
  pub xmit : a.xmit < 2 ^ 16
  pub recv : a.recv < 2 ^ 16
  pub group : a.group < 2 ^ 32
  pub count : length a.results < 2 ^ 8
  pub each : AllByRecursion IsResult a.results

pub record IsRequest (r : Request) : Type 0 where
  pub hint : r.hint < 2 ^ 32
  pub context : r.context < 2 ^ 16
  pub opnum : r.opnum < 2 ^ 16
  pub stub : AreBytes r.stub

pub record IsResponse (r : Response) : Type 0 where
  pub hint : r.hint < 2 ^ 32
  pub context : r.context < 2 ^ 16
  pub stub : AreBytes r.stub

pub record IsFault (f : Fault) : Type 0 where
  pub context : f.context < 2 ^ 16
  pub status : f.status < 2 ^ 32
