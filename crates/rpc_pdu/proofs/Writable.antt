-- What was read of a PDU can be written.
use Rattle.std.proofs.Common.{◌≡◌, ◌∙◌, ℕ, zero, suc, ◌+◌, ◌-◌, ◌*◌, ◌%◌, ◌<◌, ◌≤◌, ◌||◌, Bool, true, false, cond, eqb, not, ltb, List, [], ◌∷◌, ◌++◌, Some, Result, Ok, Err, bit_and, length, take, refl, sym, ap, subst, arith, length-append, length-take}
use Rattle.std.specs.List.{AllByRecursion}
use Rattle.std.specs.Int.{Width, byte_len, from_le_bytes, to_be_bytes, to_le_bytes, w8, w16, w32, w128}
use Rattle.std.proofs.lemmas.Bool.{ltb-false}
use Rattle.uuid.specs.Parts.{swap_fields}
use Rattle.ndr_core.specs.Items.{◌⨾◌, AreBytes, Item, bytes_of, chunk, followed, number, number_at, padding, seen, skip, zeros}
use Rattle.ndr_core.specs.Arrays.{SpellsMany, appends_many, many}
use Rattle.ndr_core.specs.Identifiers.{guid_item}
use Rattle.ndr_core.proofs.Steps.{or_false}
use Rattle.rpc_pdu.specs.declared.bind.ContextElem.{ContextElem}
use Rattle.rpc_pdu.specs.declared.bind.Bind.{Bind}
use Rattle.rpc_pdu.specs.declared.bind_ack.BindAck.{BindAck}
use Rattle.rpc_pdu.specs.declared.bind_ack.ContextResult.{ContextResult}
use Rattle.rpc_pdu.specs.declared.header.Header.{Header}
use Rattle.rpc_pdu.specs.declared.pdu.Pdu.{Pdu}
use Rattle.rpc_pdu.specs.declared.pdu.PduBody.{PduBody}
use Rattle.rpc_pdu.specs.declared.pdu.PduBody.TheVariants as bodies
use Rattle.rpc_pdu.specs.declared.refusal.PduBad.{PduBad}
use Rattle.rpc_pdu.specs.declared.refusal.PduBad.TheVariants.{Version, Kind, Drep, Length}
use Rattle.rpc_pdu.specs.Headers.{header_item, is_kind, judged}
use Rattle.rpc_pdu.specs.Bodies.{ack_item, bind_item, element_item, fault_item, nak_item, request_item, response_item, result_item, syntax_item}
use Rattle.rpc_pdu.specs.Decoding.{decoded}
use Rattle.rpc_pdu.specs.Encoding.{HasFewTransfers, LacksObject, body_appends, header_for}
use Rattle.rpc_pdu.specs.Laws.{IsWritable, WhatIsReadIsWritable}
use Rattle.rpc_pdu.specs.Spelling.{Begins, Spells, SpellsBody}
use Rattle.rpc_pdu.proofs.Decoded.{read_is_spelled}
use Rattle.rpc_pdu.proofs.Sizes.{header_size}

-- ---- how many bytes an item takes at a place

-- as many where it is spelled as where it is written
pub record Measured {A : Type 0} (item : Item A) : Type 0 where
  pub size : ℕ → A → ℕ
  pub spelled : (at : ℕ) (a : A) (text : List ℕ) → item.Spells at a text → length text ≡ size at a
  pub appended : (out : List ℕ) (a : A) → length (item.appends out a) ≡ length out + size (length out) a

length-zeros : (n : ℕ) → length (zeros n) ≡ n
length-zeros zero = refl
length-zeros (suc n) = ap suc (length-zeros n)

chunk_appended : (size count : ℕ) (out bytes : List ℕ) → length ((chunk size count).appends out bytes) ≡ length out + (padding size (length out) + length bytes)
chunk_appended size count out bytes =
    let pad : ℕ = padding size (length out) in
    omega (arith, length-append (out ++ zeros pad) bytes, length-append out (zeros pad), length-zeros pad)

abbrev measured_number : (size : ℕ) (w : Width) → ((n : ℕ) → length (to_le_bytes w n) ≡ byte_len w) → Measured (number_at size w)
measured_number size w len = record {
  size = λ at n. padding size at + byte_len w;
  spelled = λ at n text s. ap length s.1.4 ∙ length-append s.1.0 (to_le_bytes w n) ∙ omega (arith, s.1.1, s.1.2);
  appended = λ out n. chunk_appended size (byte_len w) out (to_le_bytes w n) ∙ ap (λ k. length out + (padding size (length out) + k)) (len n);
}

abbrev measured_8 : (size : ℕ) → Measured (number_at size w8)
measured_8 size = measured_number size w8 (λ n. refl)

abbrev measured_16 : Measured (number w16)
measured_16 = measured_number 2 w16 (λ n. refl)

abbrev measured_32 : Measured (number w32)
measured_32 = measured_number 4 w32 (λ n. refl)

abbrev measured_guid : Measured guid_item
measured_guid = record {
  size = λ at n. padding 4 at + 16;
  spelled = λ at n text s. ap length s.1.1.4 ∙ length-append s.1.1.0 (swap_fields (to_be_bytes w128 n)) ∙ omega (arith, s.1.1.1, s.1.1.2);
  appended = λ out n. chunk_appended 4 16 out (swap_fields (to_be_bytes w128 n));
}

abbrev measured_skip : (count : ℕ) → Measured (skip count)
measured_skip count = record {
  size = λ at none. count;
  spelled = λ at none text s. s;
  appended = λ out none. length-append out (zeros count) ∙ ap (λ k. length out + k) (length-zeros count);
}

abbrev measured_bytes : (count : ℕ) → Measured (bytes_of count)
measured_bytes count = record { size = λ at bytes. length bytes; spelled = λ at bytes text s. ap length s.2; appended = λ out bytes. length-append out bytes }

abbrev measured_seen : {A B : Type 0} {item : Item A} (to : A → B) (from : B → A) → Measured item → Measured (seen to from item)
measured_seen to from is = record { size = λ at b. is.size at (from b); spelled = λ at b text s. is.spelled at (from b) text s.1; appended = λ out b. is.appended out (from b) }

abbrev measured_followed : {A B : Type 0} {first : Item A} {second : A → Item B} → Measured first → ((a : A) → Measured (second a)) → Measured (followed first second)
measured_followed {first = first} is then = record {
  size = λ at p. is.size at p.0 + (then p.0).size (at + is.size at p.0) p.1;
  spelled = λ at p text s.
      let front : length s.0 ≡ is.size at p.0 = is.spelled at p.0 s.0 s.3 in
      let back : length s.1 ≡ (then p.0).size (at + length s.0) p.1 = (then p.0).spelled (at + length s.0) p.1 s.1 s.4 in
      ap length s.2 ∙ length-append s.0 s.1 ∙ ap (λ k. length s.0 + k) back ∙ ap (λ k. k + (then p.0).size (at + k) p.1) front;
  appended = λ out p.
      let front : length (first.appends out p.0) ≡ length out + is.size (length out) p.0 = is.appended out p.0 in
      (then p.0).appended (first.appends out p.0) p.1 ∙ ap (λ k. k + (then p.0).size k p.1) front
      ∙ omega arith;
}

infixr 20 ◌⊕◌
abbrev ◌⊕◌ : {A B : Type 0} {first : Item A} {second : Item B} → Measured first → Measured second → Measured (first ⨾ second)
is ⊕ then = measured_followed is (λ a. then)

-- the size of items, one behind the other
abbrev all : {A : Type 0} → (ℕ → A → ℕ) → ℕ → List A → ℕ
all size at [] = 0
all size at (x ∷ xs) = size at x + all size (at + size at x) xs

many_spelled : {A : Type 0} (item : Item A) (is : Measured item) (at : ℕ) (xs : List A) (text : List ℕ) → SpellsMany item.Spells at xs text → length text ≡ all is.size at xs
many_spelled item is at [] text s = ap length s
many_spelled item is at (x ∷ xs) text s =
    let front : length s.0 ≡ is.size at x = is.spelled at x s.0 s.3 in
    let back : length s.1 ≡ all is.size (at + length s.0) xs = many_spelled item is (at + length s.0) xs s.1 s.4 in
    ap length s.2 ∙ length-append s.0 s.1 ∙ ap (λ k. length s.0 + k) back ∙ ap (λ k. k + all is.size (at + k) xs) front

many_appended : {A : Type 0} (item : Item A) (is : Measured item) (out : List ℕ) (xs : List A) → length (appends_many item.appends out xs) ≡ length out + all is.size (length out) xs
many_appended item is out [] = omega arith
many_appended item is out (x ∷ xs) =
    let front : length (item.appends out x) ≡ length out + is.size (length out) x = is.appended out x in
    many_appended item is (item.appends out x) xs ∙ ap (λ k. k + all is.size k xs) front ∙ omega arith

abbrev measured_many : {A : Type 0} {item : Item A} (count : ℕ) → Measured item → Measured (many item count)
measured_many {item = item} count is = record {
  size = all is.size;
  spelled = λ at xs text s. many_spelled item is at xs text s.1;
  appended = λ out xs. many_appended item is out xs;
}

-- ---- bodies

abbrev measured_syntax : Measured syntax_item
measured_syntax = measured_seen _ _ (measured_guid ⊕ measured_32)

abbrev measured_element : Measured element_item
measured_element = measured_seen _ _ (measured_followed (measured_16 ⊕ (measured_8 1 ⊕ (measured_skip 1 ⊕ measured_syntax))) (λ head. measured_many head.1.0 measured_syntax))

abbrev measured_bind : Measured bind_item
measured_bind = measured_seen _ _ (measured_16 ⊕ (measured_16 ⊕ (measured_32 ⊕ measured_followed (measured_8 1 ⊕ measured_skip 3) (λ head. measured_many head.0 measured_element))))

abbrev measured_request : (size : ℕ) → Measured (request_item size)
measured_request size = measured_seen _ _ (measured_32 ⊕ (measured_16 ⊕ (measured_16 ⊕ measured_bytes (size - 8))))

abbrev measured_response : (size : ℕ) → Measured (response_item size)
measured_response size = measured_seen _ _ (measured_32 ⊕ (measured_16 ⊕ (measured_skip 1 ⊕ (measured_skip 1 ⊕ measured_bytes (size - 8)))))

abbrev measured_result : Measured result_item
measured_result = measured_seen _ _ (measured_16 ⊕ (measured_16 ⊕ measured_syntax))

abbrev measured_fault : Measured fault_item
measured_fault = measured_seen _ _ (measured_skip 4 ⊕ (measured_16 ⊕ (measured_skip 1 ⊕ (measured_skip 1 ⊕ (measured_32 ⊕ measured_skip 4)))))

abbrev measured_nak : Measured nak_item
measured_nak = measured_seen _ _ measured_16

-- the results behind a secondary address
abbrev results_item : Item ((ℕ × Unit {0}) × List ContextResult)
results_item = followed (number_at 4 w8 ⨾ skip 3) (λ head. many result_item head.0)

abbrev measured_results : Measured results_item
measured_results = measured_followed (measured_8 4 ⊕ measured_skip 3) (λ head. measured_many head.0 measured_result)

-- at a multiple of 4 a result has 24 bytes
result_size : (at : ℕ) (r : ContextResult) → at % 4 ≡ 0 → measured_result.size at r ≡ 24
result_size at r even = omega arith

results_size : (at : ℕ) (rs : List ContextResult) → at % 4 ≡ 0 → all measured_result.size at rs ≡ 24 * length rs
results_size at [] even = omega arith
results_size at (r ∷ rs) even =
    let one : measured_result.size at r ≡ 24 = result_size at r even in
    let next : (at + measured_result.size at r) % 4 ≡ 0 = omega arith in
    let more = results_size (at + measured_result.size at r) rs next in
    let count : 24 * length (r ∷ rs) ≡ 24 + 24 * length rs = omega arith in
    omega arith

-- ---- what a PDU that was read says

-- what a good header says of its length
refused_no : (b : Bool) (bad : PduBad) (rest : Result (Unit {0}) PduBad) → cond b (Err bad) rest ≡ Ok tt → (b ≡ false) × (rest ≡ Ok tt)
refused_no true bad rest e = absurd cc
refused_no false bad rest e = (refl, e)

good_length : (h : Header) → judged h ≡ Ok tt → (16 ≤ h.length) × (h.length ≤ 5840)
good_length h e =
    let a = refused_no (not (eqb h.version 5) || ltb 1 h.minor) Version _ e in
    let b = refused_no (not (is_kind h.kind)) Kind _ a.1 in
    let c = refused_no (not (eqb h.representation 0x10)) Drep _ b.1 in
    let d = refused_no (ltb h.length 16 || ltb 5840 h.length) Length _ c.1 in
    let parts = or_false (ltb h.length 16) (ltb 5840 h.length) d.0 in
    (ltb-false _ _ parts.0, ltb-false _ _ parts.1)

-- a byte's number is small
byte_small : (size at n : ℕ) (text : List ℕ) → (number_at size w8).Spells at n text → n < 256
byte_small size at n text s = let e : n % 256 ≡ n = s.0 in omega (arith, e)

elements_few : (at : ℕ) (es : List ContextElem) (text : List ℕ) → SpellsMany element_item.Spells at es text → AllByRecursion (λ (e : ContextElem). length e.transfers < 256) es
elements_few at [] text s = tt
elements_few at (e ∷ es) text s =
    (byte_small 1 _ (length e.transfers) _ s.3.1.3.4.3, elements_few (at + length s.0) es s.1 s.4)

few_transfers : (h : Header) (body : PduBody) (tail : List ℕ) → SpellsBody h body tail → HasFewTransfers body
few_transfers h (bodies.Request r) tail s = tt
few_transfers h (bodies.Response r) tail s = tt
few_transfers h (bodies.Fault f) tail s = tt
few_transfers h (bodies.Bind b) tail s = elements_few _ b.contexts _ s.1.1.4.4.4.4.1
few_transfers h (bodies.BindAck a) tail s = tt
few_transfers h (bodies.BindNak n) tail s = tt
few_transfers h bodies.Shutdown tail s = tt
few_transfers h bodies.CoCancel tail s = tt
few_transfers h bodies.Orphaned tail s = tt

no_object : (h : Header) (flags : ℕ) (body : PduBody) (tail : List ℕ) → h.flags ≡ flags → SpellsBody h body tail → LacksObject flags body
no_object h flags (bodies.Request r) tail same s = subst (λ f. bit_and f 0x80 ≡ 0) same s.1
no_object h flags (bodies.Response r) tail same s = tt
no_object h flags (bodies.Fault f) tail same s = tt
no_object h flags (bodies.Bind b) tail same s = tt
no_object h flags (bodies.BindAck a) tail same s = tt
no_object h flags (bodies.BindNak n) tail same s = tt
no_object h flags bodies.Shutdown tail same s = tt
no_object h flags bodies.CoCancel tail same s = tt
no_object h flags bodies.Orphaned tail same s = tt

-- a bind_ack is written with no secondary address, so in no more bytes than it was read of
ack_short : (a : BindAck) (out text : List ℕ) → length out ≡ 16 → ack_item.Spells 16 a text → length (ack_item.appends out a) ≤ 16 + length text
ack_short a out text size s =
    let first = s.1 in
    let second = first.4 in
    let third = second.4 in
    let fourth = third.4 in
    let a2 : length first.0 ≡ 2 = measured_16.spelled 16 a.xmit first.0 first.3 in
    let b2 : length second.0 ≡ 2 = omega (arith, a2, measured_16.spelled (16 + length first.0) a.recv second.0 second.3) in
    let c4 : length third.0 ≡ 4 = omega (arith, a2, b2, measured_32.spelled (16 + length first.0 + length second.0) a.group third.0 third.3) in
    let said = fourth.3.1 in
    let d2 : length said.0 ≡ 2 = omega (arith, a2, b2, c4, measured_16.spelled (16 + length first.0 + length second.0 + length third.0) fourth.3.0 said.0 said.3) in
    let address_size : length fourth.0 ≡ length said.0 + length said.1 = ap length said.2 ∙ length-append said.0 said.1 in
    let at : ℕ = 16 + length first.0 + length second.0 + length third.0 + length fourth.0 in
    let behind : length fourth.1 ≡ measured_results.size at ((length a.results, tt), a.results) = measured_results.spelled at ((length a.results, tt), a.results) fourth.1 fourth.4 in
    let start : ℕ = at + (padding 4 at + 1 + 3) in
    let even : start % 4 ≡ 0 = omega arith in
    let many_is : all measured_result.size start a.results ≡ 24 * length a.results = results_size start a.results even in
    let read : length text ≡ length first.0 + (length second.0 + (length third.0 + (length fourth.0 + length fourth.1))) =
    omega (arith, ap length first.2, length-append first.0 first.1, ap length second.2, length-append second.0 second.1, ap length third.2, length-append third.0 third.1, ap length fourth.2, length-append fourth.0 fourth.1) in
    let e : length ((number w16).appends out a.xmit) ≡ 18 = omega (arith, size, measured_16.appended out a.xmit) in
    let one : List ℕ = (number w16).appends out a.xmit in
    let f : length ((number w16).appends one a.recv) ≡ 20 = omega (arith, e, measured_16.appended one a.recv) in
    let two : List ℕ = (number w16).appends one a.recv in
    let g : length ((number w32).appends two a.group) ≡ 24 = omega (arith, f, measured_32.appended two a.group) in
    let three : List ℕ = (number w32).appends two a.group in
    let k : length ((number w16).appends three 0) ≡ 26 = omega (arith, g, measured_16.appended three 0) in
    let four : List ℕ = (number w16).appends three 0 in
    let written : length (results_item.appends four ((length a.results, tt), a.results)) ≡ length four + measured_results.size (length four) ((length a.results, tt), a.results) = measured_results.appended four ((length a.results, tt), a.results) in
    let later : measured_results.size (length four) ((length a.results, tt), a.results) ≡ 6 + 24 * length a.results = ap (λ n. measured_results.size n ((length a.results, tt), a.results)) k ∙ ap (λ n. 6 + n) (results_size 32 a.results refl) in
    omega arith

-- what is no longer to be read than to be written
written_as_read : {A : Type 0} (item : Item A) → Measured item → (a : A) (out text : List ℕ) → length out ≡ 16 → item.Spells 16 a text → length (item.appends out a) ≡ 16 + length text
written_as_read item is a out text size s =
    is.appended out a ∙ ap (λ n. n + is.size n a) size ∙ ap (λ n. 16 + n) (sym (is.spelled 16 a text s))

-- what begins a body is written in no more bytes than the body has
begins_written : {A : Type 0} (item : Item A) → Measured item → (a : A) (out tail : List ℕ) → length out ≡ 16 → Begins item a tail → length (item.appends out a) ≤ 16 + length tail
begins_written item is a out tail size s =
    omega (arith, written_as_read item is a out s.0 size s.3, ap length s.2, length-append s.0 s.1)

-- a body is written in no more bytes than a fragment has
body_short : (h : Header) (body : PduBody) (out tail : List ℕ) → length out ≡ 16 → 16 + length tail ≤ 5840 → SpellsBody h body tail → length (body_appends body out) ≤ 5840
body_short h (bodies.Request r) out tail size fits s = omega (arith, begins_written (request_item (length tail)) (measured_request (length tail)) r out tail size s.2)
body_short h (bodies.Response r) out tail size fits s = omega (arith, begins_written (response_item (length tail)) (measured_response (length tail)) r out tail size s.1)
body_short h (bodies.Fault f) out tail size fits s = omega (arith, begins_written fault_item measured_fault f out tail size s.1)
body_short h (bodies.Bind b) out tail size fits s = omega (arith, written_as_read bind_item measured_bind b out tail size s.1)
body_short h (bodies.BindAck a) out tail size fits s = omega (arith, ack_short a out s.1.0 size s.1.3, ap length s.1.2, length-append s.1.0 s.1.1)
body_short h (bodies.BindNak n) out tail size fits s =
    let wrote : length (nak_item.appends out n) ≡ length out + (padding 2 (length out) + 2) = measured_nak.appended out n in
    let pad : padding 2 (length out) ≡ 0 = ap (padding 2) size in
    omega (arith, wrote, pad, length-append (nak_item.appends out n) (1 ∷ 5 ∷ 0 ∷ []))
body_short h bodies.Shutdown out tail size fits s = omega arith
body_short h bodies.CoCancel out tail size fits s = omega arith
body_short h bodies.Orphaned out tail size fits s = omega arith

-- a spelling's length
spelled_writable : (p : Pdu) (text : List ℕ) → Spells p text → IsWritable p
spelled_writable p text s =
    let head_size : length s.head ≡ 16 = header_size s.header s.head s.spells in
    let limits = good_length s.header s.good in
    let whole : length text ≡ 16 + length s.tail = ap length s.parts ∙ length-append s.head s.tail ∙ ap (λ (n : ℕ). n + length s.tail) head_size in
    let fits : 16 + length s.tail ≤ 5840 = omega (arith, limits.1, s.length, whole) in
    record {
      transfers = few_transfers s.header p.body s.tail s.body;
      object = no_object s.header p.flags p.body s.tail s.flags s.body;
      short = body_short s.header p.body (header_item.appends [] (header_for p 0)) s.tail refl fits s.body;
    }

pub writable : WhatIsReadIsWritable
writable bytes p size are e = spelled_writable p (take size bytes) (read_is_spelled bytes p size are e).1

-- a PDU has at least the bytes of its header, and they are there
pub record IsSized (bytes : List ℕ) (size : ℕ) : Type 0 where
  pub long : 16 ≤ size
  pub there : size ≤ length bytes

pub sized : (bytes : List ℕ) (p : Pdu) (size : ℕ) → AreBytes bytes → decoded bytes ≡ Ok (Some (p, size)) → IsSized bytes size
sized bytes p size are e =
    let found = read_is_spelled bytes p size are e in
    let s = found.1 in
    record { long = omega (arith, (good_length s.header s.good).0, s.length, length-take size bytes, found.0); there = found.0 }
