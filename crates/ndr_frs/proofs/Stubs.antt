-- A stub that is one item.
use Rattle.std.proofs.Common.{◌≡◌, ◌∙◌, ℕ, ◌+◌, Bool, true, false, cond, eqb, List, [], ◌++◌, Result, Ok, Err, length, inl, inr, refl, sym, ap, subst}
use Rattle.std.specs.Prelude.{◌⊎◌}
use Rattle.std.proofs.lemmas.Bool.{eqb-true}
use Rattle.std.proofs.lemmas.List.{append-nil, nil_from_length}
use Rattle.ndr_core.specs.Cursor.{Cursor}
use Rattle.ndr_core.specs.Items.{◌>>=◌, AreBytes, Item}
use Rattle.ndr_core.specs.Laws.{IsLawful}
use Rattle.ndr_core.specs.declared.refusal.NdrBad.{NdrBad}
use Rattle.ndr_core.specs.declared.refusal.NdrBad.TheVariants.{Rest}
use Rattle.ndr_core.proofs.Steps.{bind_ok, done}
use Rattle.ndr_frs.specs.Stubs.{all_of, in_stub, made}
use Rattle.ndr_frs.specs.declared.refusal.StubBad.{StubBad}
use Rattle.ndr_frs.specs.declared.refusal.StubBad.TheVariants.{Item as OfItem, Opnum}

abbrev pub start : List ℕ → Cursor
start stub = record { at = 0; rest = stub }

-- which branch was taken
pub branch : {Q : Type 0} (b : Bool) (x y : Result (Q × Cursor) StubBad) (q : Q) → all_of (cond b x y) ≡ Ok q → ((b ≡ true) × (all_of x ≡ Ok q)) ⊎ ((b ≡ false) × (all_of y ≡ Ok q))
branch true x y q e = inl (refl, e)
branch false x y q e = inr (refl, e)

pub ended : {Q : Type 0} (b : Bool) (x q : Q) (at : ℕ) → cond b (Ok x) (Err (OfItem (Rest at))) ≡ Ok q → (b ≡ true) × (x ≡ q)
ended true x q at e = (refl, cc)
ended false x q at e = absurd cc

all_ok : {Q : Type 0} (read : Result (Q × Cursor) NdrBad) (q : Q) → all_of (in_stub read) ≡ Ok q → (x : Q × Cursor) × (read ≡ Ok x) × (x.0 ≡ q) × (x.1.rest ≡ [])
all_ok (Ok x) q e =
    let g = ended (eqb (length x.1.rest) 0) x.0 q x.1.at e in
    (x, refl, g.1, nil_from_length x.1.rest (eqb-true _ _ g.0))
all_ok (Err bad) q e = absurd cc

pair_is : {Q : Type 0} (x y : Q × Cursor) → done x ≡ done y → x ≡ y
pair_is x y e = cc

pub found_in : {A Q : Type 0} (item : Item A) (Fits : A → Type 0) → IsLawful item Fits → (make : A → Q) (stub : List ℕ) (q : Q) → AreBytes stub → all_of (in_stub (made make item (start stub))) ≡ Ok q → (a : A) × (make a ≡ q) × item.Spells 0 a stub
found_in {A = A} {Q = Q} item Fits is make stub q are e =
    let g = all_ok (made make item (start stub)) q e in
    let h = bind_ok (item.reads (start stub)) (λ x. done (make x.0, x.1)) g.0 g.1 in
    let pair = pair_is (make h.0.0, h.0.1) g.0 h.2 in
    let value : make h.0.0 ≡ q = ap (λ (p : Q × Cursor). p.0) pair ∙ g.2 in
    let nothing : h.0.1.rest ≡ [] = ap (λ (p : Q × Cursor). p.1.rest) pair ∙ g.3 in
    let t = is.sound (start stub) h.0.1 h.0.0 are h.1 in
    let same : t.text ≡ stub = sym (append-nil t.text) ∙ ap (λ (r : List ℕ). t.text ++ r) (sym nothing) ∙ sym t.parts in
    (h.0.0, value, subst (λ (text : List ℕ). item.Spells 0 h.0.0 text) same t.spells)

-- the same, where spelling the fields is spelling the value
pub spelled_in : {A Q : Type 0} (item : Item A) (Fits : A → Type 0) → IsLawful item Fits → (make : A → Q) (Spells : Q → Type 0) (stub : List ℕ) (q : Q) → AreBytes stub → ((a : A) → item.Spells 0 a stub → Spells (make a)) → all_of (in_stub (made make item (start stub))) ≡ Ok q → Spells q
spelled_in item Fits is make Spells stub q are gives e =
    let g = found_in item Fits is make stub q are e in
    subst Spells g.1 (gives g.0 g.2)

-- what stands behind a text
abbrev pub behind : List ℕ → List ℕ → Cursor
behind text rest = record { at = 0 + length text; rest = rest }

-- a stub that begins with a spelling of the fields
pub front_in : {A Q : Type 0} (item : Item A) (Fits : A → Type 0) → IsLawful item Fits → (make : A → Q) (text rest : List ℕ) (a : A) → item.Spells 0 a text → made make item (start (text ++ rest)) ≡ Ok (make a, behind text rest)
front_in item Fits is make text rest a spells = ap (λ r. r >>= λ x. done (make x.0, x.1)) (is.whole 0 a text rest spells)

-- what is written is spelled
pub written_by : {A : Type 0} (item : Item A) (Fits : A → Type 0) → IsLawful item Fits → (a : A) → Fits a → item.Spells 0 a (item.appends [] a)
written_by item Fits is a fits =
    let w = is.written [] a fits in
    subst (λ (text : List ℕ). item.Spells 0 a text) (sym w.parts) w.spells

abbrev pub judged : {Q : Type 0} → Bool → Q → ℕ → Result Q StubBad
judged b q at = cond b (Ok q) (Err (OfItem (Rest at)))

-- a text with more behind it is no spelling
pub begins_in : {Q : Type 0} (read : Result (Q × Cursor) StubBad) (text rest : List ℕ) (q r : Q) → read ≡ Ok (q, behind text rest) → all_of read ≡ Ok r → (q ≡ r) × (rest ≡ [])
begins_in read text rest q r front whole =
    let both : judged (eqb (length rest) 0) q (0 + length text) ≡ Ok r = sym (ap all_of front) ∙ whole in
    let g = ended (eqb (length rest) 0) q r (0 + length text) both in
    (g.1, nil_from_length rest (eqb-true _ _ g.0))

-- ---- answers

abbrev pub answer : {Q : Type 0} → Q → Result Q StubBad
answer q = Ok q

pub same : {Q : Type 0} (x y : Q) → answer x ≡ answer y → x ≡ y
same x y e = cc

pub refused_twice : {Q : Type 0} (bad : StubBad) (q : Q) → Err bad ≡ answer q → ⊥
refused_twice bad q e = cc

-- no call has the number
pub none : {Q : Type 0} (q : Q) → all_of {A = Q} (Err Opnum) ≡ answer q → ⊥
none q e = cc

-- what is read to the end is the whole stub
pub all_done : {Q : Type 0} (read : Result (Q × Cursor) StubBad) (q : Q) (c : Cursor) → read ≡ Ok (q, c) → eqb (length c.rest) 0 ≡ true → all_of read ≡ Ok q
all_done read q c e is = ap all_of e ∙ ap (λ b. judged b q c.at) is
