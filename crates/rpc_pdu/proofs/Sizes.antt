-- How many bytes forms have.
use Rattle.std.proofs.Common.{◌≡◌, ◌∙◌, ℕ, ◌+◌, ◌-◌, ◌*◌, ◌<◌, ◌≤◌, ◌&&◌, Bool, true, ltb, lt-ltb, List, [], ◌∷◌, ◌++◌, length, refl, ap, arith, length-append}
use Rattle.std.specs.List.{AllByRecursion}
use Rattle.std.specs.Int.{Width, byte_len, to_be_bytes, to_le_bytes, w8, w16, w32, w128}
use Rattle.uuid.specs.Parts.{swap_fields}
use Rattle.ndr_core.specs.Items.{chunk, number, number_at, padding, zeros}
use Rattle.ndr_core.specs.Arrays.{all_fit, appends_many}
use Rattle.ndr_core.specs.Identifiers.{guid_item}
use Rattle.rpc_pdu.specs.declared.bind.Syntax.{Syntax}
use Rattle.rpc_pdu.specs.declared.bind.ContextElem.{ContextElem}
use Rattle.rpc_pdu.specs.declared.bind.Bind.{Bind}
use Rattle.rpc_pdu.specs.declared.bind_ack.ContextResult.{ContextResult}
use Rattle.rpc_pdu.specs.declared.bind_ack.BindAck.{BindAck}
use Rattle.rpc_pdu.specs.declared.calls.Request.{Request}
use Rattle.rpc_pdu.specs.declared.calls.Response.{Response}
use Rattle.rpc_pdu.specs.declared.header.Header.{Header}
use Rattle.ndr_core.proofs.Loops.{all_true}
use Rattle.rpc_pdu.specs.declared.pdu.PduBody.{PduBody}
use Rattle.rpc_pdu.specs.declared.pdu.PduBody.TheVariants as bodies
use Rattle.rpc_pdu.specs.Encoding.{HasFewTransfers, body_appends, fits_body}
use Rattle.rpc_pdu.specs.Headers.{header_item}
use Rattle.rpc_pdu.specs.Bodies.{ack_item, bind_item, element_item, fits_ack, fits_bind, fits_element, request_item, response_item, result_item, syntax_item}

-- ---- spellings of one size

number_size : (w : Width) (at n : ℕ) (x : List ℕ) → (number w).Spells at n x → length x ≡ padding (byte_len w) at + byte_len w
number_size w at n x s = ap length s.1.4 ∙ length-append s.1.0 (to_le_bytes w n) ∙ omega (arith, s.1.1, s.1.2)

pub header_size : (h : Header) (text : List ℕ) → header_item.Spells 0 h text → length text ≡ 16
header_size h text spells =
    let a = spells.1 in
    let b = a.4 in
    let c = b.4 in
    let d = c.4 in
    let e = d.4 in
    let f = e.4 in
    let g = f.4 in
    let k = g.4 in
    let a1 : length a.0 ≡ 1 = number_size w8 0 h.version a.0 a.3 in
    let b1 : length b.0 ≡ 1 = omega (arith, a1, number_size w8 (0 + length a.0) h.minor b.0 b.3) in
    let c1 : length c.0 ≡ 1 = omega (arith, a1, b1, number_size w8 (0 + length a.0 + length b.0) h.kind c.0 c.3) in
    let d1 : length d.0 ≡ 1 = omega (arith, a1, b1, c1, number_size w8 (0 + length a.0 + length b.0 + length c.0) h.flags d.0 d.3) in
    let p4 : 0 + length a.0 + length b.0 + length c.0 + length d.0 ≡ 4 = omega (arith, a1, b1, c1, d1) in
    let e2 : length e.0 ≡ 2 = omega (arith, p4, number_size w16 (0 + length a.0 + length b.0 + length c.0 + length d.0) h.representation e.0 e.3) in
    let f2 : length f.0 ≡ 2 = f.3 in
    let p8 : 0 + length a.0 + length b.0 + length c.0 + length d.0 + length e.0 + length f.0 ≡ 8 = omega (arith, p4, e2, f2) in
    let g2 : length g.0 ≡ 2 = omega (arith, p8, number_size w16 (0 + length a.0 + length b.0 + length c.0 + length d.0 + length e.0 + length f.0) h.length g.0 g.3) in
    let p10 : 0 + length a.0 + length b.0 + length c.0 + length d.0 + length e.0 + length f.0 + length g.0 ≡ 10 = omega (arith, p8, g2) in
    let k2 : length k.0 ≡ 2 = omega (arith, p10, number_size w16 (0 + length a.0 + length b.0 + length c.0 + length d.0 + length e.0 + length f.0 + length g.0) h.auth k.0 k.3) in
    let p12 : 0 + length a.0 + length b.0 + length c.0 + length d.0 + length e.0 + length f.0 + length g.0 + length k.0 ≡ 12 = omega (arith, p10, k2) in
    let m4 : length k.1 ≡ 4 = omega (arith, p12, number_size w32 (0 + length a.0 + length b.0 + length c.0 + length d.0 + length e.0 + length f.0 + length g.0 + length k.0) h.call k.1 k.4) in
    let k6 : length g.1 ≡ 6 = ap length k.2 ∙ length-append k.0 k.1 ∙ omega (arith, k2, m4) in
    let g8 : length f.1 ≡ 8 = ap length g.2 ∙ length-append g.0 g.1 ∙ omega (arith, g2, k6) in
    let f10 : length e.1 ≡ 10 = ap length f.2 ∙ length-append f.0 f.1 ∙ omega (arith, f2, g8) in
    let e12 : length d.1 ≡ 12 = ap length e.2 ∙ length-append e.0 e.1 ∙ omega (arith, e2, f10) in
    let d13 : length c.1 ≡ 13 = ap length d.2 ∙ length-append d.0 d.1 ∙ omega (arith, d1, e12) in
    let c14 : length b.1 ≡ 14 = ap length c.2 ∙ length-append c.0 c.1 ∙ omega (arith, c1, d13) in
    let b15 : length a.1 ≡ 15 = ap length b.2 ∙ length-append b.0 b.1 ∙ omega (arith, b1, c14) in
    ap length a.2 ∙ length-append a.0 a.1 ∙ omega (arith, a1, b15)

pub request_size : (size : ℕ) (r : Request) (text : List ℕ) → (request_item size).Spells 16 r text → length text ≡ 8 + (size - 8)
request_size size r text spells =
    let a = spells.1 in
    let b = a.4 in
    let d = b.4 in
    let hint : length a.0 ≡ 4 = number_size w32 16 r.hint a.0 a.3 in
    let context : length b.0 ≡ 2 = omega (arith, hint, number_size w16 (16 + length a.0) r.context b.0 b.3) in
    let opnum : length d.0 ≡ 2 = omega (arith, hint, context, number_size w16 (16 + length a.0 + length b.0) r.opnum d.0 d.3) in
    let stub : length d.1 ≡ size - 8 = ap length d.4.2 ∙ d.4.0 in
    omega (arith, hint, context, opnum, stub, ap length a.2, length-append a.0 a.1, ap length b.2, length-append b.0 b.1, ap length d.2, length-append d.0 d.1)

pub response_size : (size : ℕ) (r : Response) (text : List ℕ) → (response_item size).Spells 16 r text → length text ≡ 8 + (size - 8)
response_size size r text spells =
    let a = spells.1 in
    let b = a.4 in
    let d = b.4 in
    let e = d.4 in
    let hint : length a.0 ≡ 4 = number_size w32 16 r.hint a.0 a.3 in
    let context : length b.0 ≡ 2 = omega (arith, hint, number_size w16 (16 + length a.0) r.context b.0 b.3) in
    let cancels : length d.0 ≡ 1 = d.3 in
    let reserved : length e.0 ≡ 1 = e.3 in
    let stub : length e.1 ≡ size - 8 = ap length e.4.2 ∙ e.4.0 in
    omega (arith, hint, context, cancels, reserved, stub, ap length a.2, length-append a.0 a.1, ap length b.2, length-append b.0 b.1, ap length d.2, length-append d.0 d.1, ap length e.2, length-append e.0 e.1)

-- ---- counts that a byte has room for

chunk_grows : (size count : ℕ) (out bytes : List ℕ) → length out + length bytes ≤ length ((chunk size count).appends out bytes)
chunk_grows size count out bytes =
    omega (arith, length-append (out ++ zeros (padding size (length out))) bytes, length-append out (zeros (padding size (length out))))

syntax_grows : (out : List ℕ) (s : Syntax) → length out + 20 ≤ length (syntax_item.appends out s)
syntax_grows out s = omega (arith, chunk_grows 4 16 out (swap_fields (to_be_bytes w128 s.id)), chunk_grows 4 4 (guid_item.appends out s.id) (to_le_bytes w32 s.version))

many_grows : {A : Type 0} (appends : List ℕ → A → List ℕ) (size : ℕ) → ((out : List ℕ) (a : A) → length out + size ≤ length (appends out a)) → (out : List ℕ) (xs : List A) → length out + size * length xs ≤ length (appends_many appends out xs)
many_grows appends size grows out [] = omega arith
many_grows appends size grows out (x ∷ xs) =
    let later = many_grows appends size grows (appends out x) xs in
    let first = grows out x in
    let more : size * length (x ∷ xs) ≡ size + size * length xs = omega arith in
    omega (arith, later, first, more)

element_grows : (out : List ℕ) (e : ContextElem) → length out + 24 ≤ length (element_item.appends out e)
element_grows out e =
    let id : List ℕ = (number w16).appends out e.id in
    let count : List ℕ = (number w8).appends id (length e.transfers) in
    let reserved : List ℕ = count ++ zeros 1 in
    omega
    (arith, chunk_grows 2 2 out (to_le_bytes w16 e.id), chunk_grows 1 1 id (to_le_bytes w8 (length e.transfers)), length-append count (zeros 1), syntax_grows reserved e.interface, many_grows syntax_item.appends 20 syntax_grows (syntax_item.appends reserved e.interface) e.transfers)

result_grows : (out : List ℕ) (r : ContextResult) → length out + 24 ≤ length (result_item.appends out r)
result_grows out r =
    let first : List ℕ = (number w16).appends out r.result in
    let second : List ℕ = (number w16).appends first r.reason in
    omega (arith, chunk_grows 2 2 out (to_le_bytes w16 r.result), chunk_grows 2 2 first (to_le_bytes w16 r.reason), syntax_grows second r.transfer)

and_true : (a b : Bool) → a ≡ true → b ≡ true → (a && b) ≡ true
and_true a b p q = rw (p, q) refl

all_elements : (xs : List ContextElem) → AllByRecursion (λ e. length e.transfers < 256) xs → all_fit fits_element xs ≡ true
all_elements [] are = refl
all_elements (x ∷ xs) are = and_true (fits_element x) (all_fit fits_element xs) (and_true (ltb (length x.transfers) 256) (all_fit (λ s. true) x.transfers) (lt-ltb _ _ are.0) (all_true x.transfers)) (all_elements xs are.1)

-- so few bytes have no more elements than a byte counts
pub bind_fits : (out : List ℕ) (b : Bind) → AllByRecursion (λ (e : ContextElem). length e.transfers < 256) b.contexts → length (bind_item.appends out b) ≤ 5840 → fits_bind b ≡ true
bind_fits out b few short =
    let start : List ℕ = (number w8).appends ((number w32).appends ((number w16).appends ((number w16).appends out b.xmit) b.recv) b.group) (length b.contexts) ++ zeros 3 in
    let long : length start + 24 * length b.contexts ≤ length (bind_item.appends out b) = many_grows element_item.appends 24 element_grows start b.contexts in
    and_true (ltb (length b.contexts) 256) (all_fit fits_element b.contexts) (lt-ltb _ _ (omega (arith, long, short))) (all_elements b.contexts few)

pub ack_fits : (out : List ℕ) (a : BindAck) → length (ack_item.appends out a) ≤ 5840 → fits_ack a ≡ true
ack_fits out a short =
    let start : List ℕ = (number_at 4 w8).appends ((number w16).appends ((number w32).appends ((number w16).appends ((number w16).appends out a.xmit) a.recv) a.group) 0) (length a.results) ++ zeros 3 in
    let long : length start + 24 * length a.results ≤ length (ack_item.appends out a) = many_grows result_item.appends 24 result_grows start a.results in
    and_true (ltb (length a.results) 256) (all_fit (λ r. true) a.results) (lt-ltb _ _ (omega (arith, long, short))) (all_true a.results)

-- a PDU that fits a fragment has room for its counts
pub body_fits : (out : List ℕ) (body : PduBody) → HasFewTransfers body → length (body_appends body out) ≤ 5840 → fits_body body ≡ true
body_fits out (bodies.Request r) few short = refl
body_fits out (bodies.Response r) few short = refl
body_fits out (bodies.Fault f) few short = refl
body_fits out (bodies.Bind b) few short = bind_fits out b few short
body_fits out (bodies.BindAck a) few short = ack_fits out a short
body_fits out (bodies.BindNak n) few short = refl
body_fits out bodies.Shutdown few short = refl
body_fits out bodies.CoCancel few short = refl
body_fits out bodies.Orphaned few short = refl
