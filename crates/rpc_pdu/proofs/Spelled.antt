-- What is written is a spelling.
use Rattle.std.proofs.Common.{◌≡◌, ◌∙◌, ℕ, ◌+◌, ◌^◌, ◌<◌, ◌≤◌, List, [], ◌∷◌, ◌++◌, Option, Some, Result, Ok, Err, length, refl, sym, ap, subst, append_assoc, arith, length-append, lit<, le-ltb}
use Rattle.std.proofs.lemmas.List.{append-nil, nil_from_length}
use Rattle.ndr_core.specs.Items.{Item}
use Rattle.ndr_core.specs.Laws.{GrowAlike}
use Rattle.ndr_core.proofs.Steps.{alike_length, alike_on}
use Rattle.rpc_pdu.specs.declared.header.Header.{Header}
use Rattle.rpc_pdu.specs.declared.refusal.PduBad.{PduBad}
use Rattle.rpc_pdu.specs.declared.pdu.Pdu.{Pdu}
use Rattle.rpc_pdu.specs.declared.pdu.PduBody.{PduBody}
use Rattle.rpc_pdu.specs.declared.pdu.PduBody.TheVariants as bodies
use Rattle.rpc_pdu.specs.Headers.{header_item, judged}
use Rattle.rpc_pdu.specs.Bodies.{ack_item, bind_item, fault_item, nak_item, request_item, response_item}
use Rattle.rpc_pdu.specs.Encoding.{body_appends, encoded, encoded_as, header_for, kind_of, with_length}
use Rattle.rpc_pdu.specs.Decoding.{decoded}
use Rattle.rpc_pdu.specs.Laws.{NeverBoth, NoneBegins, PdusAreSpelled, PdusReadBack}
use Rattle.rpc_pdu.specs.Spelling.{Begins, IsBody, Spells, SpellsBody}
use Rattle.rpc_pdu.proofs.Decoded.{read_as_spelled}
use Rattle.rpc_pdu.proofs.Lawful.{ack_lawful, bind_lawful, fault_lawful, header_lawful, nak_lawful, request_lawful, response_lawful}
use Rattle.rpc_pdu.proofs.Sizes.{request_size, response_size}

-- a body that was written behind a header of sixteen bytes
record WroteBody (h : Header) (body : PduBody) (out : List ℕ) : Type 0 where
  text : List ℕ
  parts : body_appends body out ≡ out ++ text
  spells : SpellsBody h body text

-- an item of which nothing is left over
begins_whole : {A : Type 0} (item : Item A) (value : A) (text : List ℕ) (at : ℕ) → at ≡ 16 → item.Spells at value text → Begins item value text
begins_whole item value text at place spells = (text, [], sym (append-nil text), subst (λ (n : ℕ). item.Spells n value text) place spells)

body_written : (h : Header) (body : PduBody) (out : List ℕ) → IsBody h.flags body → h.kind ≡ kind_of body → length out ≡ 16 → WroteBody h body out
body_written h (bodies.Request r) out is kind size =
    let n : ℕ = 8 + length r.stub in
    let w = (request_lawful n).written out r (is.0, omega arith) in
    let whole = begins_whole (request_item n) r w.text (length out) size w.spells in
    let len : length w.text ≡ n = request_size n r w.text (subst (λ (at : ℕ). (request_item n).Spells at r w.text) size w.spells) ∙ omega arith in
    record { text = w.text; parts = w.parts; spells = (kind, is.1, subst (λ (k : ℕ). Begins (request_item k) r w.text) (sym len) whole) }
body_written h (bodies.Response r) out is kind size =
    let n : ℕ = 8 + length r.stub in
    let w = (response_lawful n).written out r (is, omega arith) in
    let whole = begins_whole (response_item n) r w.text (length out) size w.spells in
    let len : length w.text ≡ n = response_size n r w.text (subst (λ (at : ℕ). (response_item n).Spells at r w.text) size w.spells) ∙ omega arith in
    record { text = w.text; parts = w.parts; spells = (kind, subst (λ (k : ℕ). Begins (response_item k) r w.text) (sym len) whole) }
body_written h (bodies.Fault f) out is kind size =
    let w = fault_lawful.written out f is in
    record { text = w.text; parts = w.parts; spells = (kind, begins_whole fault_item f w.text (length out) size w.spells) }
body_written h (bodies.Bind b) out is kind size =
    let w = bind_lawful.written out b is in
    record { text = w.text; parts = w.parts; spells = (kind, subst (λ (n : ℕ). bind_item.Spells n b w.text) size w.spells) }
body_written h (bodies.BindAck a) out is kind size =
    let w = ack_lawful.written out a is in
    record { text = w.text; parts = w.parts; spells = (kind, begins_whole ack_item a w.text (length out) size w.spells) }
body_written h (bodies.BindNak n) out is kind size =
    let w = nak_lawful.written out n is in
    record {
      text = w.text ++ 1 ∷ 5 ∷ 0 ∷ [];
      parts = ap (λ (t : List ℕ). t ++ 1 ∷ 5 ∷ 0 ∷ []) w.parts ∙ append_assoc out w.text (1 ∷ 5 ∷ 0 ∷ []);
      spells = (kind, (w.text, 1 ∷ 5 ∷ 0 ∷ [], refl, subst (λ (at : ℕ). nak_item.Spells at n w.text) size w.spells));
    }
body_written h bodies.Shutdown out is kind size = record { text = []; parts = sym (append-nil out); spells = kind }
body_written h bodies.CoCancel out is kind size = record { text = []; parts = sym (append-nil out); spells = kind }
body_written h bodies.Orphaned out is kind size = record { text = []; parts = sym (append-nil out); spells = kind }

-- a body is written as the same bytes behind any header
body_placed : (body : PduBody) (x y : List ℕ) → length x ≡ length y → GrowAlike x y (body_appends body x) (body_appends body y)
body_placed (bodies.Request r) x y e = (request_lawful 0).placed x y r e
body_placed (bodies.Response r) x y e = (response_lawful 0).placed x y r e
body_placed (bodies.Fault f) x y e = fault_lawful.placed x y f e
body_placed (bodies.Bind b) x y e = bind_lawful.placed x y b e
body_placed (bodies.BindAck a) x y e = ack_lawful.placed x y a e
body_placed (bodies.BindNak n) x y e =
    let spoken : List ℕ = 1 ∷ 5 ∷ 0 ∷ [] in
    let p : List ℕ = nak_item.appends x n in
    let q : List ℕ = nak_item.appends y n in
    alike_on x y p q (p ++ spoken) (q ++ spoken) (nak_lawful.placed x y n e) (spoken, refl, refl)
body_placed bodies.Shutdown x y e = ([], sym (append-nil x), sym (append-nil y))
body_placed bodies.CoCancel x y e = ([], sym (append-nil x), sym (append-nil y))
body_placed bodies.Orphaned x y e = ([], sym (append-nil x), sym (append-nil y))

-- so it has as many bytes
body_sized : (body : PduBody) (x y : List ℕ) → length x ≡ length y → length (body_appends body x) ≡ length (body_appends body y)
body_sized body x y e = alike_length x y (body_appends body x) (body_appends body y) e (body_placed body x y e)

-- the header of a PDU, as bytes
abbrev head_of : Pdu → ℕ → List ℕ
head_of p size = header_item.appends [] (header_for p size)

-- the length may be written once the rest is
pub lengthened : (p : Pdu) (size : ℕ) → with_length size (encoded_as p 0) ≡ encoded_as p size
lengthened p size =
    let body = body_placed p.body (head_of p 0) (head_of p size) refl in
    let patched : with_length size (head_of p 0 ++ body.0) ≡ head_of p size ++ body.0 = refl in
    ap (with_length size) body.1 ∙ patched ∙ sym body.2

-- with its header a PDU has at least sixteen bytes
pub has_header : (p : Pdu) → 16 ≤ length (encoded_as p 0)
has_header p =
    let body = body_placed p.body (head_of p 0) (head_of p 0) refl in
    omega (arith, ap length body.1, length-append (head_of p 0) body.0)

good : (call flags size : ℕ) (body : PduBody) → 16 ≤ size → size ≤ 5840 → judged (header_for (record { call = call; flags = flags; body = body }) size) ≡ Ok tt
good call flags size (bodies.Request r) long short = rw (le-ltb size 16 long, le-ltb 5840 size short) refl
good call flags size (bodies.Response r) long short = rw (le-ltb size 16 long, le-ltb 5840 size short) refl
good call flags size (bodies.Fault f) long short = rw (le-ltb size 16 long, le-ltb 5840 size short) refl
good call flags size (bodies.Bind b) long short = rw (le-ltb size 16 long, le-ltb 5840 size short) refl
good call flags size (bodies.BindAck a) long short = rw (le-ltb size 16 long, le-ltb 5840 size short) refl
good call flags size (bodies.BindNak n) long short = rw (le-ltb size 16 long, le-ltb 5840 size short) refl
good call flags size bodies.Shutdown long short = rw (le-ltb size 16 long, le-ltb 5840 size short) refl
good call flags size bodies.CoCancel long short = rw (le-ltb size 16 long, le-ltb 5840 size short) refl
good call flags size bodies.Orphaned long short = rw (le-ltb size 16 long, le-ltb 5840 size short) refl

kind_small : (body : PduBody) → kind_of body < 2 ^ 8
kind_small (bodies.Request r) = lit< tt
kind_small (bodies.Response r) = lit< tt
kind_small (bodies.Fault f) = lit< tt
kind_small (bodies.Bind b) = lit< tt
kind_small (bodies.BindAck a) = lit< tt
kind_small (bodies.BindNak n) = lit< tt
kind_small bodies.Shutdown = lit< tt
kind_small bodies.CoCancel = lit< tt
kind_small bodies.Orphaned = lit< tt

pub are_spelled : PdusAreSpelled
unfolding encoded
are_spelled p is =
    let n : ℕ = length (encoded_as p 0) in
    let h : Header = header_for p n in
    let out : List ℕ = header_item.appends [] h in
    let w = body_written h p.body out is.body refl refl in
    let size : length (encoded_as p n) ≡ n = body_sized p.body out (header_item.appends [] (header_for p 0)) refl in
    let short : n ≤ 5840 = subst (λ (k : ℕ). k ≤ 5840) size is.short in
    let head = header_lawful.written [] h (record { version = lit< tt; minor = lit< tt; kind = kind_small p.body; flags = is.flags; representation = lit< tt; length = omega (arith, short); auth = lit< tt; call = is.call }) in
    let long : 16 ≤ n = omega (arith, sym size ∙ ap length w.parts ∙ length-append out w.text) in
    record {
      header = h;
      head = head.text;
      tail = w.text;
      parts = w.parts ∙ ap (λ (t : List ℕ). t ++ w.text) head.parts;
      spells = head.spells;
      good = good p.call p.flags n p.body long short;
      call = refl;
      flags = refl;
      length = sym size;
      body = w.spells;
    }

pub read_back : PdusReadBack
read_back p rest is = read_as_spelled p (encoded p) rest (are_spelled p is)

-- ---- spellings beside one another

abbrev found : Pdu × ℕ → Result (Option (Pdu × ℕ)) PduBad
found x = Ok (Some x)

same_found : (x y : Pdu × ℕ) → found x ≡ found y → x ≡ y
same_found x y e = cc

found_refused : (x : Pdu × ℕ) (bad : PduBad) → found x ≡ Err bad → ⊥
found_refused x bad e = cc

pub none_begins : NoneBegins
none_begins p q text rest s t =
    let all : decoded (text ++ rest) ≡ found (q, length (text ++ rest)) = ap decoded (sym (append-nil (text ++ rest))) ∙ read_as_spelled q (text ++ rest) [] t in
    let same = same_found (p, length text) (q, length (text ++ rest)) (sym (read_as_spelled p text rest s) ∙ all) in
    (ap (λ (x : Pdu × ℕ). x.0) same, nil_from_length rest (omega (arith, ap (λ (x : Pdu × ℕ). x.1) same, length-append text rest)))

pub never_both : NeverBoth
never_both p text rest bad s e = found_refused (p, length text) bad (sym (read_as_spelled p text rest s) ∙ e)
