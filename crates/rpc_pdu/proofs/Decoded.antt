-- Whole PDUs: what is spelled is read, and what is read is spelled.
use Rattle.std.proofs.Common.{◌≡◌, ◌∙◌, ℕ, suc, ◌+◌, ◌-◌, ◌<◌, ◌≤◌, ◌||◌, Bool, true, false, not, cond, eqb, ltb, List, [], ◌∷◌, ◌++◌, Option, None, Some, Result, Ok, Err, length, take, drop, inl, inr, refl, sym, ap, subst, append_assoc, arith, length-append}
use Rattle.std.specs.Prelude.{slice_range}
use Rattle.std.proofs.lemmas.Bool.{cases_lt, le-ltb, lt-ltb, ltb-false, not-false}
use Rattle.std.proofs.lemmas.List.{drop_at, take_at, length-take}
use Rattle.ndr_core.specs.Cursor.{Cursor}
use Rattle.ndr_core.specs.Items.{AreBytes}
use Rattle.ndr_core.specs.declared.refusal.NdrBad.{NdrBad}
use Rattle.ndr_core.proofs.Steps.{AreBytes-take, or_false}
use Rattle.rpc_pdu.specs.declared.header.Header.{Header}
use Rattle.rpc_pdu.specs.declared.pdu.Pdu.{Pdu}
use Rattle.rpc_pdu.specs.declared.pdu.PduBody.{PduBody}
use Rattle.rpc_pdu.specs.declared.refusal.PduBad.{PduBad}
use Rattle.rpc_pdu.specs.declared.refusal.PduBad.TheVariants.{Version, Kind, Drep, Length}
use Rattle.rpc_pdu.specs.declared.refusal.PduError.{PduError}
use Rattle.rpc_pdu.specs.declared.refusal.PduError.TheVariants as errors
use Rattle.rpc_pdu.specs.Headers.{header_item, is_kind, judged}
use Rattle.rpc_pdu.specs.Decoding.{FailsOrMemory, after_header, begun, body_reads, decoded, if_good, with_body}
use Rattle.rpc_pdu.specs.Laws.{PdusAreReadAsSpelled, WhatIsReadIsSpelled}
use Rattle.rpc_pdu.specs.Spelling.{Spells}
use Rattle.rpc_pdu.proofs.Bodies.{behind, body_back, body_read}
use Rattle.rpc_pdu.proofs.Lawful.{header_lawful}
use Rattle.rpc_pdu.proofs.Sizes.{header_size}

abbrev pub start : List ℕ → Cursor
start bytes = record { at = 0; rest = bytes }

abbrev pub body_at : List ℕ → Header → Cursor
body_at bytes h = behind (slice_range bytes 16 h.length)

-- where all bytes are there
pub begun_is : (bytes : List ℕ) (h : Header) → h.length ≤ length bytes → begun bytes h ≡ with_body h (body_reads h (body_at bytes h))
begun_is bytes h le = ap (λ b. cond b (Ok None) (with_body h (body_reads h (body_at bytes h)))) (le-ltb _ _ le)

-- where they aren't
pub begun_none : (bytes : List ℕ) (h : Header) → length bytes < h.length → begun bytes h ≡ Ok None
begun_none bytes h lt = ap (λ b. cond b (Ok None) (with_body h (body_reads h (body_at bytes h)))) (lt-ltb _ _ lt)

pub decoded_is : (bytes : List ℕ) (h : Header) (after : Cursor) → header_item.reads (start bytes) ≡ Ok (h, after) → decoded bytes ≡ if_good (judged h) (begun bytes h)
unfolding decoded
decoded_is bytes h after e = ap (after_header bytes) e

pub no_header : (bytes : List ℕ) (e : NdrBad) → header_item.reads (start bytes) ≡ Err e → decoded bytes ≡ Ok None
unfolding decoded
no_header bytes e h = ap (after_header bytes) h

-- a body that is refused refuses the PDU
pub body_fails : (h : Header) (e : PduError) (read : Result PduBody PduBad) → FailsOrMemory e read → FailsOrMemory e (with_body h read)
body_fails h errors.Memory read f = tt
body_fails h (errors.Bad bad) read f = ap (with_body h) f

-- ---- what is spelled is read

pub read_as_spelled : PdusAreReadAsSpelled
read_as_spelled p text rest s =
    let h : Header = s.header in
    let bytes : List ℕ = s.head ++ (s.tail ++ rest) in
    let all : text ++ rest ≡ bytes = ap (λ (t : List ℕ). t ++ rest) s.parts ∙ append_assoc s.head s.tail rest in
    let head_size : length s.head ≡ 16 = header_size h s.head s.spells in
    let size : h.length ≡ 16 + length s.tail = s.length ∙ ap length s.parts ∙ length-append s.head s.tail ∙ ap (λ (n : ℕ). n + length s.tail) head_size in
    let read = header_lawful.whole 0 h s.head (s.tail ++ rest) s.spells in
    let d = decoded_is bytes h (record { at = 0 + length s.head; rest = s.tail ++ rest }) read in
    let fits : h.length ≤ length bytes = omega (arith, size, head_size, length-append s.head (s.tail ++ rest), length-append s.tail rest) in
    let tail_size : h.length - 16 ≡ length s.tail = omega (arith, size) in
    let cut : slice_range bytes 16 h.length ≡ s.tail = ap (take (h.length - 16)) (drop_at s.head (s.tail ++ rest) 16 head_size) ∙ take_at s.tail rest (h.length - 16) (sym tail_size) in
    let back : body_reads h (body_at bytes h) ≡ Ok p.body = ap (λ (t : List ℕ). body_reads h (behind t)) cut ∙ body_back h p.body s.tail tail_size s.body in
    let made : Result (Option (Pdu × ℕ)) PduBad = Ok (Some (record { call = h.call; flags = h.flags; body = p.body }, h.length)) in
    let same : made ≡ Ok (Some (p, length text)) = λ i. Ok (Some (record { call = s.call i; flags = s.flags i; body = p.body }, s.length i)) in
    ap decoded all ∙ d ∙ ap (λ (r : Result (Unit {0}) PduBad). if_good r (begun bytes h)) s.good ∙ begun_is bytes h fits ∙ ap (with_body h) back ∙ same

-- ---- what is read is spelled

-- what a good header says
record IsGood (h : Header) : Type 0 where
  kind : is_kind h.kind ≡ true
  long : 16 ≤ h.length

refused_no : (b : Bool) (bad : PduBad) (rest : Result (Unit {0}) PduBad) → cond b (Err bad) rest ≡ Ok tt → (b ≡ false) × (rest ≡ Ok tt)
refused_no true bad rest e = absurd cc
refused_no false bad rest e = (refl, e)

good_is : (h : Header) → judged h ≡ Ok tt → IsGood h
good_is h e =
    let a = refused_no (not (eqb h.version 5) || ltb 1 h.minor) Version _ e in
    let b = refused_no (not (is_kind h.kind)) Kind _ a.1 in
    let c = refused_no (not (eqb h.representation 0x10)) Drep _ b.1 in
    let d = refused_no (ltb h.length 16 || ltb 5840 h.length) Length _ c.1 in
    record { kind = not-false (is_kind h.kind) b.0; long = ltb-false _ _ (or_false (ltb h.length 16) (ltb 5840 h.length) d.0).0 }

take_behind : (head rest : List ℕ) (n : ℕ) → take (length head + n) (head ++ rest) ≡ head ++ take n rest
take_behind [] rest n = let e : 0 + n ≡ n = omega arith in ap (λ (k : ℕ). take k rest) e
take_behind (x ∷ xs) rest n =
    let e : length (x ∷ xs) + n ≡ suc (length xs + n) = omega arith in
    ap (λ (k : ℕ). take k (x ∷ (xs ++ rest))) e ∙ ap (λ (r : List ℕ). x ∷ r) (take_behind xs rest n)

with_body_ok : (h : Header) (read : Result PduBody PduBad) (p : Pdu) (size : ℕ) → with_body h read ≡ Ok (Some (p, size)) → (body : PduBody) × (read ≡ Ok body) × (record { call = h.call; flags = h.flags; body = body } ≡ p) × (h.length ≡ size)
with_body_ok h (Ok body) p size e =
    let pair : (record { call = h.call; flags = h.flags; body = body }, h.length) ≡ (p, size) = cc in
    (body, refl, ap (λ (x : Pdu × ℕ). x.0) pair, ap (λ (x : Pdu × ℕ). x.1) pair)
with_body_ok h (Err bad) p size e = absurd cc

if_good_ok : (judge : Result (Unit {0}) PduBad) (next : Result (Option (Pdu × ℕ)) PduBad) (p : Pdu) (size : ℕ) → if_good judge next ≡ Ok (Some (p, size)) → (judge ≡ Ok tt) × (next ≡ Ok (Some (p, size)))
if_good_ok (Ok u) next p size e = (refl, e)
if_good_ok (Err bad) next p size e = absurd cc

none_some : (read : Result (Option (Pdu × ℕ)) PduBad) (p : Pdu) (size : ℕ) → read ≡ Ok None → read ≡ Ok (Some (p, size)) → ⊥
none_some read p size a b = cc

begun_fits : (bytes : List ℕ) (h : Header) (p : Pdu) (size : ℕ) → begun bytes h ≡ Ok (Some (p, size)) → h.length ≤ length bytes
begun_fits bytes h p size e =
    elim (cases_lt (length bytes) h.length) [
      | inl lt ↦ absurd (none_some _ p size (begun_none bytes h lt) e)
      | inr le ↦ le
    ]

read_of : (bytes : List ℕ) (p : Pdu) (size : ℕ) → AreBytes bytes → decoded bytes ≡ Ok (Some (p, size)) → (read : Result (Header × Cursor) NdrBad) → header_item.reads (start bytes) ≡ read → (size ≤ length bytes) × Spells p (take size bytes)
read_of bytes p size are e (Err bad) r = absurd (none_some _ p size (no_header bytes bad r) e)
read_of bytes p size are e (Ok x) r =
    let h : Header = x.0 in
    let t = header_lawful.sound (start bytes) x.1 h are r in
    let head_size : length t.text ≡ 16 = header_size h t.text t.spells in
    let g = if_good_ok (judged h) (begun bytes h) p size (sym (decoded_is bytes h x.1 r) ∙ e) in
    let good = good_is h g.0 in
    let long : 16 ≤ h.length = good.long in
    let fits : h.length ≤ length bytes = begun_fits bytes h p size g.1 in
    let w = with_body_ok h (body_reads h (body_at bytes h)) p size (sym (begun_is bytes h fits) ∙ g.1) in
    let tail : List ℕ = take (h.length - 16) x.1.rest in
    let cut : slice_range bytes 16 h.length ≡ tail = ap (λ (b : List ℕ). take (h.length - 16) (drop 16 b)) t.parts ∙ ap (take (h.length - 16)) (drop_at t.text x.1.rest 16 head_size) in
    let whole_size : length bytes ≡ 16 + length x.1.rest = ap length t.parts ∙ length-append t.text x.1.rest ∙ ap (λ (n : ℕ). n + length x.1.rest) head_size in
    let tail_size : h.length - 16 ≡ length tail = omega (arith, long, fits, whole_size, length-take (h.length - 16) x.1.rest) in
    let body = body_read h w.0 tail (AreBytes-take (h.length - 16) x.1.rest t.bytes) good.kind tail_size (ap (λ (b : List ℕ). body_reads h (behind b)) (sym cut) ∙ w.1) in
    let text_is : take h.length bytes ≡ t.text ++ tail =
    ap (λ (n : ℕ). take n bytes) (omega (arith, long, head_size)) ∙ ap (take (length t.text + (h.length - 16))) t.parts ∙ take_behind t.text x.1.rest (h.length - 16) in
    let found : Pdu = record { call = h.call; flags = h.flags; body = w.0 } in
    let text_size : h.length ≡ length (take h.length bytes) = omega (arith, fits, length-take h.length bytes) in
    let spells : Spells found (take h.length bytes) = record { header = h; head = t.text; tail = tail; parts = text_is; spells = t.spells; good = g.0; call = refl; flags = refl; length = text_size; body = body } in (
      subst (λ (n : ℕ). n ≤ length bytes) w.3 fits,
      subst (λ (n : ℕ). Spells p (take n bytes)) w.3 (subst (λ (q : Pdu). Spells q (take h.length bytes)) w.2 spells),
    )

pub read_is_spelled : WhatIsReadIsSpelled
read_is_spelled bytes p size are e = read_of bytes p size are e (header_item.reads (start bytes)) refl
