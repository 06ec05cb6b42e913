-- Counts and arrays keep the laws.
use Rattle.std.proofs.Common.{◌≡◌, ℕ, zero, suc, ◌+◌, ◌^◌, ◌<◌, ◌≤◌, false, cond, not, ◌||◌, eqb, ltb, List, [], ◌∷◌, ◌++◌, length, Ok, Err, refl, sym, ap, subst, ◌∙◌, append_assoc, arith, lit<}
use Rattle.std.specs.Int.{w32}
use Rattle.std.specs.List.{AllByRecursion}
use Rattle.std.proofs.lemmas.Bool.{eqb-true, ltb-false, le-ltb, not-false}
use Rattle.std.proofs.lemmas.List.{length-append, append-nil}
use Rattle.ndr_core.specs.declared.refusal.NdrBad.TheVariants.{Count}
use Rattle.ndr_core.specs.Cursor.{Cursor}
use Rattle.ndr_core.specs.Items.{◌>>=◌, Item, AreBytes, number, padding, together}
use Rattle.ndr_core.specs.Arrays.{SpellsMany, appends_many, conformant, many, reads_many, span, varying}
use Rattle.ndr_core.specs.Laws.{GrowAlike, IsLawful, Took}
use Rattle.ndr_core.proofs.Steps.{bind_ok, guard_ok, or_false, done, ok_is, alike_length, alike_on}
use Rattle.ndr_core.proofs.Bytes.{number_32_lawful}
use Rattle.ndr_core.proofs.Words.{◌⊗◌, lawful_together}

many_sound : {A : Type 0} (item : Item A) (Fits : A → Type 0) → IsLawful item Fits → (count : ℕ) (old new : Cursor) (xs : List A) → AreBytes old.rest → reads_many item.reads count old ≡ Ok (xs, new) → Took (many item count) old xs new
many_sound {A = A} item Fits is zero old new xs are e =
    let made : Took (many item 0) old [] old = record { text = []; parts = refl; place = omega arith; bytes = are; spells = (refl, refl) } in
    subst (λ (x : List A × Cursor). Took (many item 0) old x.0 x.1) (ok_is ([], old) (xs, new) e) made
many_sound {A = A} item Fits is (suc count) old new xs are e =
    let g = bind_ok (item.reads old) (λ x. reads_many item.reads count x.1 >>= λ ys. Ok (x.0 ∷ ys.0, ys.1)) (xs, new) e in
    let h = bind_ok (reads_many item.reads count g.0.1) (λ ys. Ok (g.0.0 ∷ ys.0, ys.1)) (xs, new) g.2 in
    let t = is.sound old g.0.1 g.0.0 are g.1 in
    let u = many_sound item Fits is count g.0.1 h.0.1 h.0.0 t.bytes h.1 in
    let made : Took (many item (suc count)) old (g.0.0 ∷ h.0.0) h.0.1 = record {
      text = t.text ++ u.text;
      parts = t.parts ∙ ap (λ (r : List ℕ). t.text ++ r) u.parts ∙ sym (append_assoc t.text u.text h.0.1.rest);
      place = omega (arith, t.place, u.place, length-append t.text u.text);
      bytes = u.bytes;
      spells = (ap suc u.spells.0, (t.text, u.text, refl, t.spells, subst (λ (at : ℕ). SpellsMany item.Spells at h.0.0 u.text) t.place u.spells.1));
    } in
    subst (λ (x : List A × Cursor). Took (many item (suc count)) old x.0 x.1) (ok_is (g.0.0 ∷ h.0.0, h.0.1) (xs, new) h.2) made

many_whole : {A : Type 0} (item : Item A) (Fits : A → Type 0) → IsLawful item Fits → (at : ℕ) (xs : List A) (text rest : List ℕ) → SpellsMany item.Spells at xs text → reads_many item.reads (length xs) (record { at = at; rest = text ++ rest }) ≡ Ok (xs, record { at = at + length text; rest = rest })
many_whole {A = A} item Fits is at [] text rest spells = rw spells (ap (λ (n : ℕ). done {A = List A × Cursor} ([], record { at = n; rest = rest })) (omega arith))
many_whole item Fits is at (x ∷ xs) text rest spells =
    let regrouped : text ++ rest ≡ spells.0 ++ (spells.1 ++ rest) = ap (λ (t : List ℕ). t ++ rest) spells.2 ∙ append_assoc spells.0 spells.1 rest in
    let place : at + length spells.0 + length spells.1 ≡ at + length text = omega (arith, ap length spells.2, length-append spells.0 spells.1) in
    rw (regrouped, is.whole at x spells.0 (spells.1 ++ rest) spells.3, many_whole item Fits is (at + length spells.0) xs spells.1 rest spells.4, place) refl

many_written : {A : Type 0} (item : Item A) (Fits : A → Type 0) → IsLawful item Fits → (out : List ℕ) (xs : List A) → AllByRecursion Fits xs → (text : List ℕ) × (appends_many item.appends out xs ≡ out ++ text) × SpellsMany item.Spells (length out) xs text
many_written item Fits is out [] fits = ([], sym (append-nil out), refl)
many_written item Fits is out (x ∷ xs) fits =
    let w = is.written out x fits.0 in
    let v = many_written item Fits is (item.appends out x) xs fits.1 in
    let place : length (item.appends out x) ≡ length out + length w.text = ap length w.parts ∙ length-append out w.text in
    (w.text ++ v.0, v.1 ∙ ap (λ (r : List ℕ). r ++ v.0) w.parts ∙ append_assoc out w.text v.0, (w.text, v.0, refl, w.spells, subst (λ (at : ℕ). SpellsMany item.Spells at xs v.0) place v.2))

many_placed : {A : Type 0} (item : Item A) (Fits : A → Type 0) → IsLawful item Fits → (x y : List ℕ) (xs : List A) → length x ≡ length y → GrowAlike x y (appends_many item.appends x xs) (appends_many item.appends y xs)
many_placed item Fits is x y [] e = ([], sym (append-nil x), sym (append-nil y))
many_placed item Fits is x y (v ∷ vs) e =
    let p : List ℕ = item.appends x v in
    let q : List ℕ = item.appends y v in
    let f = is.placed x y v e in
    alike_on x y p q (appends_many item.appends p vs) (appends_many item.appends q vs) f (many_placed item Fits is p q vs (alike_length x y p q e f))

pub many_lawful : {A : Type 0} (item : Item A) (count : ℕ) (Fits : A → Type 0) → IsLawful item Fits → IsLawful (many item count) (λ xs. (length xs ≡ count) × AllByRecursion Fits xs)
many_lawful item count Fits is = record {
  sound = many_sound item Fits is count;
  whole = λ at xs text rest spells. rw (← spells.0) (many_whole item Fits is at xs text rest spells.1);
  written = λ out xs fits.
      let w = many_written item Fits is out xs fits.1 in
      record { text = w.0; parts = w.1; spells = (fits.0, w.2) };
  placed = many_placed item Fits is;
}

pub lawful_many : {A : Type 0} {item : Item A} {Fits : A → Type 0} (count : ℕ) → IsLawful item Fits → IsLawful (many item count) (λ xs. (length xs ≡ count) × AllByRecursion Fits xs)
lawful_many {item = item} {Fits = Fits} count is = many_lawful item count Fits is

-- ---- counts

pub conformant_lawful : (limit : ℕ) → IsLawful (conformant limit) (λ n. (n ≤ limit) × (n < 2 ^ 32))
conformant_lawful limit = record {
  sound = λ old new a are e.
      let g = bind_ok ((number w32).reads old) (λ x. cond (ltb limit x.0) (Err (Count (old.at + padding 4 old.at))) (Ok x)) (a, new) e in
      let h = guard_ok (ltb limit g.0.0) (Count (old.at + padding 4 old.at)) g.0 (a, new) g.2 in
      let t = number_32_lawful.sound old g.0.1 g.0.0 are g.1 in
      let made : Took (conformant limit) old g.0.0 g.0.1 = record { text = t.text; parts = t.parts; place = t.place; bytes = t.bytes; spells = (ltb-false _ _ h.0, t.spells) } in
      subst (λ (x : ℕ × Cursor). Took (conformant limit) old x.0 x.1) h.1 made;
  whole = λ at a text rest spells.
      let small : ltb limit a ≡ false = le-ltb _ _ spells.0 in
      rw (number_32_lawful.whole at a text rest spells.1, small) refl;
  written = λ out a fits.
      let w = number_32_lawful.written out a fits.1 in
      record { text = w.text; parts = w.parts; spells = (fits.0, w.spells) };
  placed = number_32_lawful.placed;
}

-- offset and count
pub span_lawful : IsLawful span (λ p. (p.0 < 2 ^ 32) × (p.1 < 2 ^ 32))
span_lawful = number_32_lawful ⊗ number_32_lawful

-- neither the offset nor the count is refused
pub not_refused : (limit offset n : ℕ) → (not (eqb offset 0) || ltb limit n) ≡ false → (offset ≡ 0) × (n ≤ limit)
not_refused limit offset n e =
    let b = or_false (not (eqb offset 0)) (ltb limit n) e in
    (eqb-true offset 0 (not-false (eqb offset 0) b.0), ltb-false limit n b.1)

pub varying_lawful : (limit : ℕ) → IsLawful (varying limit) (λ n. (n ≤ limit) × (n < 2 ^ 32))
varying_lawful limit = record {
  sound = λ old new a are e.
      let both = lawful_together 4 span_lawful in
      let g = bind_ok ((together 4 span).reads old) (λ x. cond (not (eqb x.0.0 0) || ltb limit x.0.1) (Err (Count (old.at + padding 4 old.at))) (Ok (x.0.1, x.1))) (a, new) e in
      let h = guard_ok (not (eqb g.0.0.0 0) || ltb limit g.0.0.1) (Count (old.at + padding 4 old.at)) (g.0.0.1, g.0.1) (a, new) g.2 in
      let k = not_refused limit g.0.0.0 g.0.0.1 h.0 in
      let t = both.sound old g.0.1 g.0.0 are g.1 in
      let spells : span.Spells old.at (0, g.0.0.1) t.text = subst (λ (n : ℕ). span.Spells old.at (n, g.0.0.1) t.text) k.0 t.spells in
      let made : Took (varying limit) old g.0.0.1 g.0.1 = record { text = t.text; parts = t.parts; place = t.place; bytes = t.bytes; spells = (k.1, spells) } in
      subst (λ (x : ℕ × Cursor). Took (varying limit) old x.0 x.1) h.1 made;
  whole = λ at a text rest spells.
      let small : ltb limit a ≡ false = le-ltb _ _ spells.0 in
      rw (span_lawful.whole at (0, a) text rest spells.1, small) refl;
  written = λ out a fits.
      let w = span_lawful.written out (0, a) (lit< tt, fits.1) in
      record { text = w.text; parts = w.parts; spells = (fits.0, w.spells) };
  placed = λ x y a e. span_lawful.placed x y (0, a) e;
}
