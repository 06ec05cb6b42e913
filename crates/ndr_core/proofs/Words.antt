-- The words that put items together keep the laws.
use Rattle.std.proofs.Common.{◌≡◌, ℕ, ◌+◌, Bool, true, cond, eqb, eq-eqb, List, ◌++◌, length, Result, Ok, Err, refl, sym, ap, subst, ◌∙◌, append_assoc, arith}
use Rattle.std.proofs.lemmas.Bool.{eqb-true}
use Rattle.std.proofs.lemmas.List.{length-append}
use Rattle.ndr_core.specs.declared.refusal.NdrBad.{NdrBad}
use Rattle.ndr_core.specs.declared.refusal.NdrBad.TheVariants.{Value}
use Rattle.ndr_core.specs.Cursor.{Cursor}
use Rattle.ndr_core.specs.Items.{◌>>=◌, ◌⨾◌, Item, checked, fixed, followed, padding, seen, short_at, together}
use Rattle.ndr_core.specs.Laws.{IsLawful, Took}
use Rattle.ndr_core.proofs.Steps.{bind_ok, good_ok, ok_is, alike_length, alike_on}

pub seen_lawful : {A B : Type 0} (to : A → B) (from : B → A) (item : Item A) (Fits : A → Type 0) → IsLawful item Fits → ((at : ℕ) (a : A) (text : List ℕ) → item.Spells at a text → from (to a) ≡ a)
    → IsLawful (seen to from item) (λ b. (to (from b) ≡ b) × Fits (from b))
seen_lawful {A = A} {B = B} to from item Fits is back = record {
  sound = λ old new b are e.
      let g = bind_ok (item.reads old) (λ x. Ok (to x.0, x.1)) (b, new) e in
      let t = is.sound old g.0.1 g.0.0 are g.1 in
      let same : from (to g.0.0) ≡ g.0.0 = back old.at g.0.0 t.text t.spells in
      let made : Took (seen to from item) old (to g.0.0) g.0.1 = record { text = t.text; parts = t.parts; place = t.place; bytes = t.bytes; spells = (ap to same, subst (λ (a : A). item.Spells old.at a t.text) (sym same) t.spells) } in
      subst (λ (x : B × Cursor). Took (seen to from item) old x.0 x.1) (ok_is (to g.0.0, g.0.1) (b, new) g.2) made;
  whole = λ at b text rest spells. rw (is.whole at (from b) text rest spells.1, spells.0) refl;
  written = λ out b fits.
      let w = is.written out (from b) fits.1 in
      record { text = w.text; parts = w.parts; spells = (fits.0, w.spells) };
  placed = λ x y b e. is.placed x y (from b) e;
}

pub followed_lawful : {A B : Type 0} (first : Item A) (second : A → Item B) (Fits : A → Type 0) (Fits2 : A → B → Type 0) → IsLawful first Fits → ((a : A) → IsLawful (second a) (Fits2 a))
    → IsLawful (followed first second) (λ ab. Fits ab.0 × Fits2 ab.0 ab.1)
followed_lawful {A = A} {B = B} first second Fits Fits2 is are2 = record {
  sound = λ old new ab are e.
      let g = bind_ok (first.reads old) (λ x. (second x.0).reads x.1 >>= λ y. Ok ((x.0, y.0), y.1)) (ab, new) e in
      let h = bind_ok ((second g.0.0).reads g.0.1) (λ y. Ok ((g.0.0, y.0), y.1)) (ab, new) g.2 in
      let t = is.sound old g.0.1 g.0.0 are g.1 in
      let u = (are2 g.0.0).sound g.0.1 h.0.1 h.0.0 t.bytes h.1 in
      let made : Took (followed first second) old (g.0.0, h.0.0) h.0.1 = record {
        text = t.text ++ u.text;
        parts = t.parts ∙ ap (λ (r : List ℕ). t.text ++ r) u.parts ∙ sym (append_assoc t.text u.text h.0.1.rest);
        place = omega (arith, t.place, u.place, length-append t.text u.text);
        bytes = u.bytes;
        spells = (t.text, u.text, refl, t.spells, subst (λ (at : ℕ). (second g.0.0).Spells at h.0.0 u.text) t.place u.spells);
      } in
      subst (λ (x : (A × B) × Cursor). Took (followed first second) old x.0 x.1) (ok_is ((g.0.0, h.0.0), h.0.1) (ab, new) h.2) made;
  whole = λ at ab text rest spells.
      let regrouped : text ++ rest ≡ spells.0 ++ (spells.1 ++ rest) = ap (λ (t : List ℕ). t ++ rest) spells.2 ∙ append_assoc spells.0 spells.1 rest in
      let place : at + length spells.0 + length spells.1 ≡ at + length text = omega (arith, ap length spells.2, length-append spells.0 spells.1) in
      rw (regrouped, is.whole at ab.0 spells.0 (spells.1 ++ rest) spells.3, (are2 ab.0).whole (at + length spells.0) ab.1 spells.1 rest spells.4, place) refl;
  written = λ out ab fits.
      let w = is.written out ab.0 fits.0 in
      let v = (are2 ab.0).written (first.appends out ab.0) ab.1 fits.1 in
      let place : length (first.appends out ab.0) ≡ length out + length w.text = ap length w.parts ∙ length-append out w.text in
      record {
        text = w.text ++ v.text;
        parts = v.parts ∙ ap (λ (r : List ℕ). r ++ v.text) w.parts ∙ append_assoc out w.text v.text;
        spells = (w.text, v.text, refl, w.spells, subst (λ (at : ℕ). (second ab.0).Spells at ab.1 v.text) place v.spells);
      };
  placed = λ x y ab e.
      let p : List ℕ = first.appends x ab.0 in
      let q : List ℕ = first.appends y ab.0 in
      let f = is.placed x y ab.0 e in
      alike_on x y p q ((second ab.0).appends p ab.1) ((second ab.0).appends q ab.1) f ((are2 ab.0).placed p q ab.1 (alike_length x y p q e f));
}

pub checked_lawful : {A : Type 0} (size : ℕ) (good : A → Bool) (item : Item A) (Fits : A → Type 0) → IsLawful item Fits → IsLawful (checked size good item) (λ a. (good a ≡ true) × Fits a)
checked_lawful {A = A} size good item Fits is = record {
  sound = λ old new a are e.
      let g = bind_ok (item.reads old) (λ x. cond (good x.0) (Ok x) (Err (Value (old.at + padding size old.at)))) (a, new) e in
      let h = good_ok (good g.0.0) (Value (old.at + padding size old.at)) g.0 (a, new) g.2 in
      let t = is.sound old g.0.1 g.0.0 are g.1 in
      let made : Took (checked size good item) old g.0.0 g.0.1 = record { text = t.text; parts = t.parts; place = t.place; bytes = t.bytes; spells = (h.0, t.spells) } in
      subst (λ (x : A × Cursor). Took (checked size good item) old x.0 x.1) h.1 made;
  whole = λ at a text rest spells. rw (is.whole at a text rest spells.1, spells.0) refl;
  written = λ out a fits.
      let w = is.written out a fits.1 in
      record { text = w.text; parts = w.parts; spells = (fits.0, w.spells) };
  placed = is.placed;
}

short_ok : {A : Type 0} (at : ℕ) (read : Result A NdrBad) (x : A) → short_at at read ≡ Ok x → read ≡ Ok x
short_ok at (Ok y) x e = e
short_ok at (Err d) x e = absurd cc

-- under another condition
pub lawful_under : {A : Type 0} (item : Item A) (Fits Holds : A → Type 0) → IsLawful item Fits → ((a : A) → Holds a → Fits a) → IsLawful item Holds
lawful_under item Fits Holds is implies = record { sound = is.sound; whole = is.whole; written = λ out a holds. is.written out a (implies a holds); placed = is.placed }

-- ---- short forms, for forms of many items

infixr 20 ◌⊗◌
pub ◌⊗◌ : {A B : Type 0} {first : Item A} {second : Item B} {Fits : A → Type 0} {Fits2 : B → Type 0} → IsLawful first Fits → IsLawful second Fits2 → IsLawful (first ⨾ second) (λ ab. Fits ab.0 × Fits2 ab.1)
◌⊗◌ {first = first} {second = second} {Fits = Fits} {Fits2 = Fits2} is are = followed_lawful first (λ a. second) Fits (λ a. Fits2) is (λ a. are)

pub lawful_then : {A B : Type 0} {first : Item A} {second : A → Item B} {Fits : A → Type 0} {Fits2 : A → B → Type 0} → IsLawful first Fits → ((a : A) → IsLawful (second a) (Fits2 a)) → IsLawful (followed first second) (λ ab. Fits ab.0 × Fits2 ab.0 ab.1)
lawful_then {first = first} {second = second} {Fits = Fits} {Fits2 = Fits2} is are = followed_lawful first second Fits Fits2 is are

pub lawful_checked : {A : Type 0} {item : Item A} {Fits : A → Type 0} (size : ℕ) (good : A → Bool) → IsLawful item Fits → IsLawful (checked size good item) (λ a. (good a ≡ true) × Fits a)
lawful_checked {item = item} {Fits = Fits} size good is = checked_lawful size good item Fits is

pub lawful_where : {A : Type 0} {item : Item A} {Fits : A → Type 0} (Holds : A → Type 0) → ((a : A) → Holds a → Fits a) → IsLawful item Fits → IsLawful item Holds
lawful_where {item = item} {Fits = Fits} Holds implies is = lawful_under item Fits Holds is implies

pub lawful_seen : {A B : Type 0} {item : Item A} {Fits : A → Type 0} (to : A → B) (from : B → A) → ((at : ℕ) (a : A) (text : List ℕ) → item.Spells at a text → from (to a) ≡ a) → IsLawful item Fits
    → IsLawful (seen to from item) (λ b. (to (from b) ≡ b) × Fits (from b))
lawful_seen {item = item} {Fits = Fits} to from back is = seen_lawful to from item Fits is back

pub lawful_fixed : {item : Item ℕ} {Fits : ℕ → Type 0} (size n : ℕ) → IsLawful item Fits → IsLawful (fixed size n item) (λ a. Fits n)
lawful_fixed {item = item} {Fits = Fits} size n is = record {
  sound = λ old new a are e.
      let g = bind_ok (item.reads old) (λ x. cond (eqb x.0 n) (Ok (tt, x.1)) (Err (Value (old.at + padding size old.at)))) (a, new) e in
      let h = good_ok (eqb g.0.0 n) (Value (old.at + padding size old.at)) (tt, g.0.1) (a, new) g.2 in
      let t = is.sound old g.0.1 g.0.0 are g.1 in
      let made : Took (fixed size n item) old tt g.0.1 = record { text = t.text; parts = t.parts; place = t.place; bytes = t.bytes; spells = subst (λ m. item.Spells old.at m t.text) (eqb-true _ _ h.0) t.spells } in
      subst (λ (x : Unit {0} × Cursor). Took (fixed size n item) old x.0 x.1) h.1 made;
  whole = λ at a text rest spells. rw (is.whole at n text rest spells, eq-eqb n n refl) refl;
  written = λ out a fits.
      let w = is.written out n fits in
      record { text = w.text; parts = w.parts; spells = w.spells };
  placed = λ x y a e. is.placed x y n e;
}

pub lawful_together : {A : Type 0} {item : Item A} {Fits : A → Type 0} (size : ℕ) → IsLawful item Fits → IsLawful (together size item) Fits
lawful_together {A = A} {item = item} {Fits = Fits} size is = record {
  sound = λ old new a are e.
      let t = is.sound old new a are (short_ok (old.at + padding size old.at) (item.reads old) (a, new) e) in
      record { text = t.text; parts = t.parts; place = t.place; bytes = t.bytes; spells = t.spells };
  whole = λ at a text rest spells. ap (short_at (at + padding size at)) (is.whole at a text rest spells);
  written = λ out a fits.
      let w = is.written out a fits in
      record { text = w.text; parts = w.parts; spells = w.spells };
  placed = is.placed;
}
