-- Pointers and what they point to keep the laws.
use Rattle.std.proofs.Common.{◌≡◌, ℕ, ◌+◌, ◌^◌, ◌<◌, Bool, not, true, false, eqb, List, [], ◌++◌, Option, Some, None, Ok, refl, sym, ap, subst, ◌∙◌, length, arith, lit<}
use Rattle.std.specs.Prelude.{IfSome}
use Rattle.std.specs.Int.{w32}
use Rattle.std.proofs.lemmas.List.{append-nil}
use Rattle.ndr_core.specs.Cursor.{Cursor}
use Rattle.ndr_core.specs.Items.{◌>>=◌, Item, number}
use Rattle.ndr_core.specs.Laws.{GrowAlike, IsLawful, Took, Wrote}
use Rattle.ndr_core.specs.Pointers.{append_if, is_some, optional, referent, unique, when}
use Rattle.ndr_core.proofs.Steps.{bind_ok, done, ok_is}
use Rattle.ndr_core.proofs.Words.{lawful_seen, lawful_then, lawful_where}
use Rattle.ndr_core.proofs.Bytes.{number_32_lawful}

referent_small : (present : Bool) → referent present < 2 ^ 32
referent_small true = lit< tt
referent_small false = lit< tt

referent_is : (present : Bool) → not (eqb (referent present) 0) ≡ present
referent_is true = refl
referent_is false = refl

pub unique_lawful : IsLawful unique (λ present. Unit {0})
unique_lawful = record {
  sound = λ old new present are e.
      let g = bind_ok ((number w32).reads old) (λ x. Ok (not (eqb x.0 0), x.1)) (present, new) e in
      let t = number_32_lawful.sound old g.0.1 g.0.0 are g.1 in
      let made : Took unique old (not (eqb g.0.0 0)) g.0.1 = record { text = t.text; parts = t.parts; place = t.place; bytes = t.bytes; spells = (g.0.0, refl, t.spells) } in
      subst (λ (x : Bool × Cursor). Took unique old x.0 x.1) (ok_is (not (eqb g.0.0 0), g.0.1) (present, new) g.2) made;
  whole = λ at present text rest spells. rw (number_32_lawful.whole at spells.0 text rest spells.2, spells.1) refl;
  written = λ out present fits.
      let w = number_32_lawful.written out (referent present) (referent_small present) in
      record { text = w.text; parts = w.parts; spells = (referent present, referent_is present, w.spells) };
  placed = λ x y present e. number_32_lawful.placed x y (referent present) e;
}

abbrev FitsWhen : {A : Type 0} → (A → Type 0) → Bool → Option A → Type 0
FitsWhen Fits present v = (is_some v ≡ present) × IfSome v Fits

there_written : {A : Type 0} (item : Item A) (Fits : A → Type 0) → IsLawful item Fits → (out : List ℕ) (v : Option A) → FitsWhen Fits true v → Wrote (when true item) out v
there_written item Fits is out None fits = let e : false ≡ true = fits.0 in absurd cc
there_written item Fits is out (Some a) fits =
    let w = is.written out a fits.1 in
    record { text = w.text; parts = w.parts; spells = (a, refl, w.spells) }

none_written : {A : Type 0} (item : Item A) (Fits : A → Type 0) (out : List ℕ) (v : Option A) → FitsWhen Fits false v → Wrote (when false item) out v
none_written item Fits out None fits = record { text = []; parts = sym (append-nil out); spells = (refl, refl) }
none_written item Fits out (Some a) fits = let e : true ≡ false = fits.0 in absurd cc

if_placed : {A : Type 0} (item : Item A) (Fits : A → Type 0) → IsLawful item Fits → (x y : List ℕ) (v : Option A) → length x ≡ length y → GrowAlike x y (append_if item.appends x v) (append_if item.appends y v)
if_placed item Fits is x y None e = ([], sym (append-nil x), sym (append-nil y))
if_placed item Fits is x y (Some a) e = is.placed x y a e

when_lawful : {A : Type 0} (item : Item A) (Fits : A → Type 0) → IsLawful item Fits → (present : Bool) → IsLawful (when present item) (FitsWhen Fits present)
when_lawful {A = A} item Fits is true = record {
  sound = λ old new v are e.
      let g = bind_ok (item.reads old) (λ x. done {A = Option A × Cursor} (Some x.0, x.1)) (v, new) e in
      let t = is.sound old g.0.1 g.0.0 are g.1 in
      let made : Took (when true item) old (Some g.0.0) g.0.1 = record { text = t.text; parts = t.parts; place = t.place; bytes = t.bytes; spells = (g.0.0, refl, t.spells) } in
      subst (λ (x : Option A × Cursor). Took (when true item) old x.0 x.1) (ok_is (Some g.0.0, g.0.1) (v, new) g.2) made;
  whole = λ at v text rest s.
      ap (λ r. r >>= λ x. done {A = Option A × Cursor} (Some x.0, x.1)) (is.whole at s.0 text rest s.2)
      ∙ ap (λ (u : Option A). done {A = Option A × Cursor} (u, record { at = at + length text; rest = rest })) (sym s.1);
  written = λ out v fits. there_written item Fits is out v fits;
  placed = if_placed item Fits is;
}
when_lawful {A = A} item Fits is false = record {
  sound = λ old new v are e.
      let made : Took (when false item) old None old = record { text = []; parts = refl; place = omega arith; bytes = are; spells = (refl, refl) } in
      subst (λ (x : Option A × Cursor). Took (when false item) old x.0 x.1) (ok_is (None, old) (v, new) e) made;
  whole = λ at v text rest s.
      let place : at ≡ at + length text = omega (arith, ap length s.1) in
      let bytes : text ++ rest ≡ rest = ap (λ (t : List ℕ). t ++ rest) s.1 in
      λ i. done {A = Option A × Cursor} (sym s.0 i, record { at = place i; rest = bytes i });
  written = λ out v fits. none_written item Fits out v fits;
  placed = if_placed item Fits is;
}

same_present : {A : Type 0} (item : Item A) (at : ℕ) (present : Bool) (v : Option A) (text : List ℕ) → (when present item).Spells at v text → is_some v ≡ present
same_present item at true v text s = ap is_some s.1
same_present item at false v text s = ap is_some s.0

pub optional_lawful : {A : Type 0} {item : Item A} {Fits : A → Type 0} → IsLawful item Fits → IsLawful (optional item) (λ v. IfSome v Fits)
optional_lawful {A = A} {item = item} {Fits = Fits} is =
    lawful_where (λ v. IfSome v Fits) (λ v fits. (refl, (tt, (refl, fits))))
    (lawful_seen _ _ (λ at a text s. ap (λ (b : Bool). (b, a.1)) (same_present item _ a.0 a.1 _ s.4)) (lawful_then unique_lawful (λ present. when_lawful item Fits is present)))
