-- Whole bytes against an item that keeps the laws.
use Rattle.std.proofs.Common.{◌≡◌, ℕ, ◌+◌, cond, eqb, List, [], ◌++◌, length, Ok, Err, refl, sym, ap, subst, ◌∙◌, append_assoc}
use Rattle.std.proofs.lemmas.Bool.{eqb-true}
use Rattle.std.proofs.lemmas.List.{append-nil, nil_from_length}
use Rattle.ndr_core.specs.declared.refusal.NdrBad.TheVariants.{Rest}
use Rattle.ndr_core.specs.Cursor.{Cursor}
use Rattle.ndr_core.specs.Items.{Item, AreBytes}
use Rattle.ndr_core.specs.Calls.{reads_all}
use Rattle.ndr_core.specs.Laws.{IsCodec, IsExact, IsLawful, ReadsBack, WritesSpellings}
use Rattle.ndr_core.proofs.Steps.{bind_ok, done, good_ok}

abbrev start : List ℕ → Cursor
start bytes = record { at = 0; rest = bytes }

whole_found : {A : Type 0} (item : Item A) (Fits : A → Type 0) → IsLawful item Fits → (bytes : List ℕ) → AreBytes bytes → (a : A) → reads_all item bytes ≡ Ok a → item.Spells 0 a bytes
whole_found item Fits is bytes are a e =
    let g = bind_ok (item.reads (start bytes)) (λ x. cond (eqb (length x.1.rest) 0) (Ok x.0) (Err (Rest x.1.at))) a e in
    let h = good_ok (eqb (length g.0.1.rest) 0) (Rest g.0.1.at) g.0.0 a g.2 in
    let t = is.sound (start bytes) g.0.1 g.0.0 are g.1 in
    let nothing : g.0.1.rest ≡ [] = nil_from_length g.0.1.rest (eqb-true _ _ h.0) in
    let same : t.text ≡ bytes = sym (append-nil t.text) ∙ ap (λ (r : List ℕ). t.text ++ r) (sym nothing) ∙ sym t.parts in
    subst (λ (text : List ℕ). item.Spells 0 a text) same (subst (λ b. item.Spells 0 b t.text) h.1 t.spells)

whole_only : {A : Type 0} (item : Item A) (Fits : A → Type 0) → IsLawful item Fits → (bytes : List ℕ) (a : A) → item.Spells 0 a bytes → reads_all item bytes ≡ Ok a
whole_only item Fits is bytes a spells =
    let read : item.reads (start bytes) ≡ Ok (a, record { at = 0 + length bytes; rest = [] }) = ap (λ (b : List ℕ). item.reads (start b)) (sym (append-nil bytes)) ∙ is.whole 0 a bytes [] spells in
    rw read refl

pub exact : {A : Type 0} (item : Item A) (Fits : A → Type 0) → IsLawful item Fits → (bytes : List ℕ) → AreBytes bytes → IsExact item bytes
exact item Fits is bytes are = record { found = whole_found item Fits is bytes are; only = whole_only item Fits is bytes }

pub writes_spellings : {A : Type 0} (item : Item A) (Fits : A → Type 0) → IsLawful item Fits → WritesSpellings item Fits
writes_spellings item Fits is a fits =
    let w = is.written [] a fits in
    subst (λ (text : List ℕ). item.Spells 0 a text) (sym w.parts) w.spells

pub reads_back : {A : Type 0} (item : Item A) (Fits : A → Type 0) → IsLawful item Fits → ReadsBack item Fits
reads_back item Fits is a fits = whole_only item Fits is (item.appends [] a) a (writes_spellings item Fits is a fits)

pub codec : {A : Type 0} (item : Item A) (Fits : A → Type 0) → IsLawful item Fits → IsCodec item Fits
codec item Fits is = record { exact = exact item Fits is; written = writes_spellings item Fits is; back = reads_back item Fits is }

pub codec_of : {A : Type 0} {item : Item A} {Fits : A → Type 0} → IsLawful item Fits → IsCodec item Fits
codec_of {item = item} {Fits = Fits} is = codec item Fits is

-- what is read stays read as more bytes come
pub reads_more : {A : Type 0} (item : Item A) (Fits : A → Type 0) → IsLawful item Fits → (old new : Cursor) (a : A) (piece : List ℕ) → AreBytes old.rest → item.reads old ≡ Ok (a, new)
    → item.reads (record { at = old.at; rest = old.rest ++ piece }) ≡ Ok (a, record { at = new.at; rest = new.rest ++ piece })
reads_more {A = A} item Fits is old new a piece are e =
    let t = is.sound old new a are e in
    let regrouped : old.rest ++ piece ≡ t.text ++ (new.rest ++ piece) = ap (λ (r : List ℕ). r ++ piece) t.parts ∙ append_assoc t.text new.rest piece in
    ap (λ (r : List ℕ). item.reads (record { at = old.at; rest = r })) regrouped ∙ is.whole old.at a t.text (new.rest ++ piece) t.spells
    ∙ ap (λ (n : ℕ). done (a, record { at = n; rest = new.rest ++ piece })) (sym t.place)
