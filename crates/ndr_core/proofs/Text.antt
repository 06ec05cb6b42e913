-- Strings keep the laws, and how the end of one is looked for.
use Rattle.std.proofs.Common.{◌≡◌, ℕ, zero, suc, ◌+◌, ◌-◌, ◌^◌, ◌<◌, ◌≤◌, ◌||◌, Bool, not, true, false, cond, eqb, ltb, List, [], ◌∷◌, ◌++◌, get_or, length, take, drop, Result, Ok, Err, refl, sym, ap, subst, ◌∙◌, arith, length-append, lit<}
use Rattle.std.specs.List.{AllByRecursion}
use Rattle.std.proofs.lemmas.Bool.{eqb-true, le-ltb, ne_eqb}
use Rattle.std.proofs.lemmas.List.{nil_from_length, take_at}
use Rattle.ndr_core.specs.declared.refusal.NdrBad.{NdrBad}
use Rattle.ndr_core.specs.declared.refusal.NdrBad.TheVariants.{Count, Terminator}
use Rattle.ndr_core.specs.Cursor.{Cursor}
use Rattle.ndr_core.specs.Items.{padding}
use Rattle.ndr_core.specs.Laws.{IsLawful}
use Rattle.ndr_core.specs.Strings.{HasNoZero, IsText, StringFields, behind_text, front, is_ended, raw_string, string, string_reads, text_of}
use Rattle.ndr_core.proofs.Steps.{done, good_ok}
use Rattle.ndr_core.proofs.Arrays.{lawful_many, not_refused, span_lawful}
use Rattle.ndr_core.proofs.Bytes.{number_16_lawful}
use Rattle.ndr_core.proofs.Words.{lawful_then}

-- ---- the end of a string

-- behind a unit that is not 0 the end is looked for further on
pub goes_on : (us : List ℕ) (i j : ℕ) → i < length us → eqb (get_or us i 0) 0 ≡ false → j ≡ i + 1 → is_ended (drop j us) ≡ is_ended (drop i us)
goes_on [] i j lt e is = absurd (omega arith)
goes_on (u ∷ us) i zero lt e is = absurd (omega arith)
goes_on (u ∷ us) zero (suc j) lt e is = let none : j ≡ 0 = omega arith in rw (none, e) refl
goes_on (u ∷ us) (suc i) (suc j) lt e is = goes_on us i j (omega arith) e (omega arith)

-- at a 0 it is the end exactly where nothing is behind it
pub stops : (us : List ℕ) (i j : ℕ) → i < length us → eqb (get_or us i 0) 0 ≡ true → j ≡ i + 1 → eqb (length (drop j us)) 0 ≡ is_ended (drop i us)
stops [] i j lt e is = absurd (omega arith)
stops (u ∷ us) i zero lt e is = absurd (omega arith)
stops (u ∷ us) zero (suc j) lt e is = let none : j ≡ 0 = omega arith in rw (none, e) refl
stops (u ∷ us) (suc i) (suc j) lt e is = stops us i j (omega arith) e (omega arith)

split_from : (b : Bool) (u : ℕ) (us : List ℕ) → eqb u 0 ≡ b → (is_ended us ≡ true → us ≡ front us ++ 0 ∷ []) → cond b (eqb (length us) 0) (is_ended us) ≡ true → u ∷ us ≡ front (u ∷ us) ++ 0 ∷ []
split_from true u us zero_is later e =
    let none : us ≡ [] = nil_from_length us (eqb-true (length us) 0 e) in
    let is : u ≡ 0 = eqb-true u 0 zero_is in
    rw (none, is) refl
split_from false u [] zero_is later e = absurd cc
split_from false u (v ∷ us) zero_is later e =
    let k : length (u ∷ v ∷ us) - 1 ≡ suc (length (v ∷ us) - 1) = omega arith in
    ap (λ (r : List ℕ). u ∷ r) (later e) ∙ ap (λ (n : ℕ). take n (u ∷ v ∷ us) ++ 0 ∷ []) (sym k)

-- units that end so are those before the end, and a 0
split_end : (units : List ℕ) → is_ended units ≡ true → units ≡ front units ++ 0 ∷ []
split_end [] e = absurd cc
split_end (u ∷ us) e = split_from (eqb u 0) u us refl (split_end us) e

front_of : (text : List ℕ) → front (text ++ 0 ∷ []) ≡ text
front_of text = take_at text (0 ∷ []) (length (text ++ 0 ∷ []) - 1) (omega (arith, length-append text (0 ∷ [])))

gt_eqb : (u : ℕ) → 0 < u → eqb u 0 ≡ false
gt_eqb u lt = ne_eqb u 0 (λ e. omega arith)

ended : (text : List ℕ) → HasNoZero text → is_ended (text ++ 0 ∷ []) ≡ true
ended [] none = refl
ended (u ∷ text) none = let some : eqb u 0 ≡ false = gt_eqb u none.0 in rw some (ended text none.1)

units_small : (text : List ℕ) → AllByRecursion (λ u. u < 2 ^ 16) text → AllByRecursion (λ u. u < 2 ^ 16) (text ++ 0 ∷ [])
units_small [] are = (lit< tt, tt)
units_small (u ∷ text) are = (are.0, units_small text are.1)

-- ---- laws

cond_ok : {A : Type 0} (b : Bool) (d : NdrBad) (r : Result A NdrBad) (y : A) → cond b (Err d) r ≡ Ok y → (b ≡ false) × (r ≡ Ok y)
cond_ok true d r y e = absurd cc
cond_ok false d r y e = (refl, e)

behind_ok : (c new : Cursor) (text : Result (List ℕ) NdrBad) (value : List ℕ) → behind_text c text ≡ Ok (value, new) → (text ≡ Ok value) × (c ≡ new)
behind_ok c new (Ok t) value e =
    let pair : (t, c) ≡ (value, new) = cc in
    (ap (λ (p : List ℕ × Cursor). Ok p.0) pair, ap (λ (p : List ℕ × Cursor). p.1) pair)
behind_ok c new (Err d) value e = absurd cc

-- what a read of a string says of the raw one
pub record Raw (limit : ℕ) (text : List ℕ) (raw : StringFields) : Type 0 where
  offset : raw.0.0 ≡ 0
  limited : raw.0.1 ≤ limit
  ended : is_ended raw.1 ≡ true
  units : raw.1 ≡ text ++ 0 ∷ []

string_ok : (limit at : ℕ) (read : Result (StringFields × Cursor) NdrBad) (text : List ℕ) (new : Cursor) → string_reads limit at read ≡ Ok (text, new)
    → (raw : StringFields) × (read ≡ Ok (raw, new)) × Raw limit text raw
string_ok limit at (Err e) text new h = absurd cc
string_ok limit at (Ok x) text new h =
    let b = behind_ok x.1 new (text_of at limit x.0) text h in
    let a = cond_ok (not (eqb x.0.0.0 0) || ltb limit x.0.0.1) (Count at) (cond (is_ended x.0.1) (Ok (front x.0.1)) (Err (Terminator at))) text b.0 in
    let counts = not_refused limit x.0.0.0 x.0.0.1 a.0 in
    let g = good_ok (is_ended x.0.1) (Terminator at) (front x.0.1) text a.1 in (
      x.0,
      ap (λ (d : Cursor). done (x.0, d)) b.1,
      record { offset = counts.0; limited = counts.1; ended = g.0; units = split_end x.0.1 g.0 ∙ ap (λ (t : List ℕ). t ++ 0 ∷ []) g.1 },
    )

raw_lawful : IsLawful raw_string (λ raw. ((raw.0.0 < 2 ^ 32) × (raw.0.1 < 2 ^ 32)) × ((length raw.1 ≡ raw.0.1) × AllByRecursion (λ u. u < 2 ^ 16) raw.1))
raw_lawful = lawful_then span_lawful (λ head. lawful_many head.1 number_16_lawful)

abbrev of_text : List ℕ → StringFields
of_text text = ((0, length text + 1), text ++ 0 ∷ [])

raw_is : (raw : StringFields) (limit : ℕ) (text : List ℕ) → Raw limit text raw → length raw.1 ≡ raw.0.1 → raw ≡ of_text text
raw_is raw limit text is counted =
    let count : raw.0.1 ≡ length text + 1 = omega (arith, ap length is.units, length-append text (0 ∷ []), counted) in
    λ i. ((is.offset i, count i), is.units i)

pub string_lawful : (limit : ℕ) → IsLawful (string limit) (IsText limit)
string_lawful limit = record {
  sound = λ old new text are e.
      let g = string_ok limit (old.at + padding 4 old.at) (raw_string.reads old) text new e in
      let t = raw_lawful.sound old new g.0 are g.1 in
      let same = raw_is g.0 limit text g.2 t.spells.4.0 in
      let spells : raw_string.Spells old.at (of_text text) t.text = subst (λ (raw : StringFields). raw_string.Spells old.at raw t.text) same t.spells in
      let short : length text + 1 ≤ limit = omega (arith, g.2.limited, ap (λ (raw : StringFields). raw.0.1) same) in
      record { text = t.text; parts = t.parts; place = t.place; bytes = t.bytes; spells = (short, subst (λ (us : List ℕ). is_ended us ≡ true) g.2.units g.2.ended, spells) };
  whole = λ at text bytes rest spells.
      let read = raw_lawful.whole at (of_text text) bytes rest spells.2 in
      rw (read, le-ltb limit (length text + 1) spells.0, spells.1, front_of text) refl;
  written = λ out text is.
      let w = raw_lawful.written out (of_text text) ((lit< tt, is.fits), (length-append text (0 ∷ []), units_small text is.units)) in
      record { text = w.text; parts = w.parts; spells = (is.short, ended text is.no_zero, w.spells) };
  placed = λ x y text e. raw_lawful.placed x y (of_text text) e;
}
