-- Bodies: what is read of one is spelled, and what is spelled is read.
use Rattle.std.proofs.Common.{◌≡◌, ◌∙◌, ℕ, ◌-◌, Bool, true, false, cond, eqb, eq-eqb, List, [], ◌++◌, Result, Ok, Err, bit_and, length, inl, inr, refl, sym, ap, subst}
use Rattle.std.specs.Prelude.{◌⊎◌}
use Rattle.std.proofs.lemmas.Bool.{eqb-true}
use Rattle.std.proofs.lemmas.List.{append-nil, nil_from_length}
use Rattle.ndr_core.specs.Cursor.{Cursor}
use Rattle.ndr_core.specs.Items.{AreBytes, Item}
use Rattle.ndr_core.specs.Laws.{IsLawful}
use Rattle.ndr_core.specs.declared.refusal.NdrBad.{NdrBad}
use Rattle.rpc_pdu.specs.declared.bind.Bind.{Bind}
use Rattle.rpc_pdu.specs.declared.header.Header.{Header}
use Rattle.rpc_pdu.specs.declared.pdu.PduBody.{PduBody}
use Rattle.rpc_pdu.specs.declared.pdu.PduBody.TheVariants as bodies
use Rattle.rpc_pdu.specs.declared.refusal.PduBad.{PduBad}
use Rattle.rpc_pdu.specs.declared.refusal.PduBad.TheVariants.{Body}
use Rattle.rpc_pdu.specs.Headers.{is_kind}
use Rattle.rpc_pdu.specs.Bodies.{ack_item, bind_item, fault_item, nak_item, request_item, response_item}
use Rattle.rpc_pdu.specs.Decoding.{bind_reads, body_reads, in_body, item_reads, request_reads, response_reads}
use Rattle.rpc_pdu.specs.Spelling.{Begins, SpellsBody}
use Rattle.rpc_pdu.proofs.Lawful.{ack_lawful, bind_lawful, fault_lawful, nak_lawful, request_lawful, response_lawful}

abbrev pub behind : List ℕ → Cursor
behind text = record { at = 16; rest = text }

-- ---- what is spelled is read

-- the reading of a body by its kind
abbrev by_kind : ℕ → Header → Cursor → Result PduBody PduBad
by_kind kind h c =
    cond (eqb kind 0) (request_reads h c) (cond (eqb kind 2) (response_reads h c) (cond (eqb kind 3) (item_reads fault_item bodies.Fault c) (cond (eqb kind 11) (bind_reads c) (cond (eqb kind 12) (item_reads ack_item bodies.BindAck c) (cond (eqb kind 13) (item_reads nak_item bodies.BindNak c) (cond (eqb kind 17) (Ok bodies.Shutdown) (cond (eqb kind 18) (Ok bodies.CoCancel) (Ok bodies.Orphaned))))))))

begins_back : {A : Type 0} (item : Item A) (Fits : A → Type 0) → IsLawful item Fits → (body : A → PduBody) (value : A) (text : List ℕ) → Begins item value text → item_reads item body (behind text) ≡ Ok (body value)
begins_back item Fits is body value text spells =
    let read = ap (λ (t : List ℕ). item.reads (behind t)) spells.2 ∙ is.whole 16 value spells.0 spells.1 spells.3 in
    ap (in_body (λ found after. Ok (body found))) read

bind_back : (b : Bind) (text : List ℕ) → bind_item.Spells 16 b text → bind_reads (behind text) ≡ Ok (bodies.Bind b)
bind_back b text spells =
    let read = ap (λ (t : List ℕ). bind_item.reads (behind t)) (sym (append-nil text)) ∙ bind_lawful.whole 16 b text [] spells in
    ap (in_body (λ found after. cond (eqb (length after.rest) 0) (Ok (bodies.Bind found)) (Err (Body after.at)))) read

pub body_back : (h : Header) (body : PduBody) (text : List ℕ) → h.length - 16 ≡ length text → SpellsBody h body text → body_reads h (behind text) ≡ Ok body
body_back h (bodies.Request r) text size spells =
    ap (λ (k : ℕ). by_kind k h (behind text)) spells.0
    ∙ ap (λ (b : Bool). cond b (item_reads (request_item (h.length - 16)) bodies.Request (behind text)) (Err (Body 3))) (eq-eqb _ _ spells.1)
    ∙ ap (λ (n : ℕ). item_reads (request_item n) bodies.Request (behind text)) size
    ∙ begins_back (request_item (length text)) _ (request_lawful (length text)) bodies.Request r text spells.2
body_back h (bodies.Response r) text size spells =
    ap (λ (k : ℕ). by_kind k h (behind text)) spells.0
    ∙ ap (λ (n : ℕ). item_reads (response_item n) bodies.Response (behind text)) size
    ∙ begins_back (response_item (length text)) _ (response_lawful (length text)) bodies.Response r text spells.1
body_back h (bodies.Fault f) text size spells = ap (λ (k : ℕ). by_kind k h (behind text)) spells.0 ∙ begins_back fault_item _ fault_lawful bodies.Fault f text spells.1
body_back h (bodies.Bind b) text size spells = ap (λ (k : ℕ). by_kind k h (behind text)) spells.0 ∙ bind_back b text spells.1
body_back h (bodies.BindAck a) text size spells = ap (λ (k : ℕ). by_kind k h (behind text)) spells.0 ∙ begins_back ack_item _ ack_lawful bodies.BindAck a text spells.1
body_back h (bodies.BindNak n) text size spells = ap (λ (k : ℕ). by_kind k h (behind text)) spells.0 ∙ begins_back nak_item _ nak_lawful bodies.BindNak n text spells.1
body_back h bodies.Shutdown text size spells = ap (λ (k : ℕ). by_kind k h (behind text)) spells
body_back h bodies.CoCancel text size spells = ap (λ (k : ℕ). by_kind k h (behind text)) spells
body_back h bodies.Orphaned text size spells = ap (λ (k : ℕ). by_kind k h (behind text)) spells

-- ---- what is read is spelled

in_body_ok : {A : Type 0} (next : A → Cursor → Result PduBody PduBad) (read : Result (A × Cursor) NdrBad) (body : PduBody) → in_body next read ≡ Ok body → (x : A × Cursor) × (read ≡ Ok x) × (next x.0 x.1 ≡ Ok body)
in_body_ok next (Ok x) body e = (x, refl, e)
in_body_ok next (Err bad) body e = absurd cc

abbrev done : PduBody → Result PduBody PduBad
done body = Ok body

same_body : (a b : PduBody) → done a ≡ done b → a ≡ b
same_body a b e = cc

begins_read : {A : Type 0} (item : Item A) (Fits : A → Type 0) → IsLawful item Fits → (make : A → PduBody) (body : PduBody) (text : List ℕ) → AreBytes text → item_reads item make (behind text) ≡ Ok body → (value : A) × (make value ≡ body) × Begins item value text
begins_read item Fits is make body text are e =
    let g = in_body_ok (λ value after. Ok (make value)) (item.reads (behind text)) body e in
    let t = is.sound (behind text) g.0.1 g.0.0 are g.1 in
    (g.0.0, same_body _ _ g.2, (t.text, g.0.1.rest, t.parts, t.spells))

checked_end : (b : Bool) (made body : PduBody) (at : ℕ) → cond b (Ok made) (Err (Body at)) ≡ Ok body → (b ≡ true) × (made ≡ body)
checked_end true made body at e = (refl, same_body made body e)
checked_end false made body at e = absurd cc

bind_read : (body : PduBody) (text : List ℕ) → AreBytes text → bind_reads (behind text) ≡ Ok body → (b : Bind) × (bodies.Bind b ≡ body) × bind_item.Spells 16 b text
bind_read body text are e =
    let g = in_body_ok (λ found after. cond (eqb (length after.rest) 0) (Ok (bodies.Bind found)) (Err (Body after.at))) (bind_item.reads (behind text)) body e in
    let h = checked_end (eqb (length g.0.1.rest) 0) (bodies.Bind g.0.0) body g.0.1.at g.2 in
    let t = bind_lawful.sound (behind text) g.0.1 g.0.0 are g.1 in
    let nothing : g.0.1.rest ≡ [] = nil_from_length g.0.1.rest (eqb-true _ _ h.0) in
    let same : t.text ≡ text = sym (append-nil t.text) ∙ ap (λ (r : List ℕ). t.text ++ r) (sym nothing) ∙ sym t.parts in
    (g.0.0, h.1, subst (λ (x : List ℕ). bind_item.Spells 16 g.0.0 x) same t.spells)

request_flag : (b : Bool) (read : Result PduBody PduBad) (body : PduBody) → cond b read (Err (Body 3)) ≡ Ok body → (b ≡ true) × (read ≡ Ok body)
request_flag true read body e = (refl, e)
request_flag false read body e = absurd cc

-- which branch was taken
branch : (b : Bool) (x y : Result PduBody PduBad) (body : PduBody) → cond b x y ≡ Ok body → ((b ≡ true) × (x ≡ Ok body)) ⊎ ((b ≡ false) × (y ≡ Ok body))
branch true x y body e = inl (refl, e)
branch false x y body e = inr (refl, e)

last_kind : (kind : ℕ) → is_kind kind ≡ true → eqb kind 0 ≡ false → eqb kind 2 ≡ false → eqb kind 3 ≡ false → eqb kind 11 ≡ false → eqb kind 12 ≡ false → eqb kind 13 ≡ false → eqb kind 17 ≡ false → eqb kind 18 ≡ false → kind ≡ 19
last_kind kind is a b c d e f g h = eqb-true kind 19 (rw (a, b, c, d, e, f, g, h) at is)

abbrev SB : Header → List ℕ → PduBody → Type 0
SB h text body = SpellsBody h body text

pub body_read : (h : Header) (body : PduBody) (text : List ℕ) → AreBytes text → is_kind h.kind ≡ true → h.length - 16 ≡ length text → body_reads h (behind text) ≡ Ok body → SpellsBody h body text
body_read h body text are kind size e =
    elim (branch (eqb h.kind 0) _ _ body e) [
      | inl a ↦
          let f = request_flag (eqb (bit_and h.flags 0x80) 0) _ body a.1 in
          let g = begins_read (request_item (length text)) _ (request_lawful (length text)) bodies.Request body text are (ap (λ (n : ℕ). item_reads (request_item n) bodies.Request (behind text)) (sym size) ∙ f.1) in
          subst (SB h text) g.1 (eqb-true h.kind 0 a.0, eqb-true _ _ f.0, g.2)
      | inr a ↦ elim (branch (eqb h.kind 2) _ _ body a.1) [
        | inl b ↦
            let g = begins_read (response_item (length text)) _ (response_lawful (length text)) bodies.Response body text are (ap (λ (n : ℕ). item_reads (response_item n) bodies.Response (behind text)) (sym size) ∙ b.1) in
            subst (SB h text) g.1 (eqb-true h.kind 2 b.0, g.2)
        | inr b ↦ elim (branch (eqb h.kind 3) _ _ body b.1) [
          | inl c ↦ let g = begins_read fault_item _ fault_lawful bodies.Fault body text are c.1 in subst (SB h text) g.1 (eqb-true h.kind 3 c.0, g.2)
          | inr c ↦ elim (branch (eqb h.kind 11) _ _ body c.1) [
            | inl d ↦ let g = bind_read body text are d.1 in subst (SB h text) g.1 (eqb-true h.kind 11 d.0, g.2)
            | inr d ↦ elim (branch (eqb h.kind 12) _ _ body d.1) [
              | inl k ↦ let g = begins_read ack_item _ ack_lawful bodies.BindAck body text are k.1 in subst (SB h text) g.1 (eqb-true h.kind 12 k.0, g.2)
              | inr k ↦ elim (branch (eqb h.kind 13) _ _ body k.1) [
                | inl m ↦ let g = begins_read nak_item _ nak_lawful bodies.BindNak body text are m.1 in subst (SB h text) g.1 (eqb-true h.kind 13 m.0, g.2)
                | inr m ↦ elim (branch (eqb h.kind 17) _ _ body m.1) [
                  | inl n ↦ subst (SB h text) (same_body _ _ n.1) (eqb-true h.kind 17 n.0)
                  | inr n ↦ elim (branch (eqb h.kind 18) _ _ body n.1) [
                    | inl o ↦ subst (SB h text) (same_body _ _ o.1) (eqb-true h.kind 18 o.0)
                    | inr o ↦ subst (SB h text) (same_body _ _ o.1) (last_kind h.kind kind a.0 b.0 c.0 d.0 k.0 m.0 n.0 o.0)
                  ]
                ]
              ]
            ]
          ]
        ]
      ]
    ]
