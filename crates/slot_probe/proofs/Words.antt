-- Bytes at their first space or line feed.
use Rattle.std.proofs.Common.{◌≡◌, ◌≢◌, ◌∙◌, ℕ, ◌+◌, ◌<◌, ◌≤◌, Bool, true, false, cond, eqb, ltb, List, [], ◌∷◌, ◌++◌, Option, Some, None, length, get_or, take, drop, refl, sym, ap, subst, append_assoc, arith, length-take, length-append}
use Rattle.std.specs.Prelude.{position}
use Rattle.std.specs.List.{position_or_len}
use Rattle.std.proofs.lemmas.Bool.{eqb-true, ltb-false, ltb-true}
use Rattle.std.proofs.lemmas.Bool.Decides.{nat_tests}
use Rattle.std.proofs.lemmas.List.{get_or-take, get_or_at}
use Rattle.std.proofs.lemmas.List.Elements.{All-from_get_or, All-get_or, All-head, All-tail}
use Rattle.std.proofs.lemmas.List.Sums.{fails_before_first, passes_at_first, split_at_first}
use Rattle.slot_probe.specs.Rows.{IsNoRow, IsNoWord, IsWords, Lacks, SpellsWord}

abbrev pub is_byte : ℕ → ℕ → Bool
is_byte byte b = eqb b byte

not_byte : (byte b : ℕ) → eqb b byte ≡ false → b ≢ byte
not_byte byte b other is = absurd (grind (arith, nat_tests))

cond_none : (b : Bool) (n : ℕ) → cond b (Some n) None ≡ None → b ≡ false
cond_none true n e = absurd cc
cond_none false n e = refl

cond_some : (b : Bool) (n m : ℕ) → cond b (Some n) None ≡ Some m → (b ≡ true) × (n ≡ m)
cond_some true n m e = (refl, cc)
cond_some false n m e = absurd cc

-- none
pub lacks_byte : (byte : ℕ) (bytes : List ℕ) → position (is_byte byte) bytes ≡ None → Lacks byte bytes
lacks_byte byte bytes e =
    let past : length bytes ≤ position_or_len (is_byte byte) bytes = ltb-false _ _ (cond_none _ _ e) in
    All-from_get_or (λ b. b ≢ byte) bytes 0 (λ i within. not_byte byte (get_or bytes i 0) (fails_before_first (is_byte byte) bytes i 0 (omega arith)))

-- the first one, at this place
pub record PartsAt (byte : ℕ) (bytes : List ℕ) (at : ℕ) : Type 0 where
  pub within : at < length bytes
  pub lacks : Lacks byte (take at bytes)
  pub parts : bytes ≡ take at bytes ++ byte ∷ drop (at + 1) bytes

pub parts_at : (byte : ℕ) (bytes : List ℕ) (at : ℕ) → position (is_byte byte) bytes ≡ Some at → PartsAt byte bytes at
parts_at byte bytes at e =
    let found = cond_some _ _ at e in
    let first : position_or_len (is_byte byte) bytes ≡ at = found.1 in
    let below : position_or_len (is_byte byte) bytes < length bytes = ltb-true _ _ found.0 in
    let is : get_or bytes (position_or_len (is_byte byte) bytes) 0 ≡ byte = eqb-true _ _ (passes_at_first (is_byte byte) bytes 0 below) in
    let size : length (take at bytes) ≡ at = omega (arith, below, first, length-take at bytes) in
    record {
      within = omega (arith, below, first);
      lacks = All-from_get_or (λ b. b ≢ byte) (take at bytes) 0 (λ i within.
          let small : i < at = omega (arith, within, size) in
          not_byte byte (get_or (take at bytes) i 0) (ap (λ b. eqb b byte) (get_or-take at bytes i 0 small) ∙ fails_before_first (is_byte byte) bytes i 0 (omega arith)));
      parts =
          split_at_first (is_byte byte) bytes 0 below
          ∙ ap (λ b. take (position_or_len (is_byte byte) bytes) bytes ++ b ∷ drop (position_or_len (is_byte byte) bytes + 1) bytes) is
          ∙ ap (λ k. take k bytes ++ byte ∷ drop (k + 1) bytes) first;
    }

-- ---- the words of a row

pub words_at : (row : List ℕ) (at : ℕ) → position (is_byte 32) row ≡ Some at → IsWords row (take at row) (drop (at + 1) row)
words_at row at e = let p = parts_at 32 row at e in record { lacks = p.lacks; parts = p.parts }

pub no_words : (row : List ℕ) → position (is_byte 32) row ≡ None → IsNoRow row
no_words row e first second a b words spells_a spells_b =
    let inside : length first < length row = omega (arith, ap length words.parts, length-append first (32 ∷ second)) in
    All-get_or (λ b. b ≢ 32) row (length first) 0 inside (lacks_byte 32 row e)
    (ap (λ (l : List ℕ). get_or l (length first) 0) words.parts ∙ get_or_at first 32 second 0 (length first) refl)

-- a row has one pair of words
same_words : (f g s t : List ℕ) → Lacks 32 f → Lacks 32 g → f ++ 32 ∷ s ≡ g ++ 32 ∷ t → (f ≡ g) × (s ≡ t)
same_words [] [] s t lf lg e = (refl, ap (λ (l : List ℕ). drop 1 l) e)
same_words [] (y ∷ g) s t lf lg e = absurd (All-head (λ b. b ≢ 32) y g lg (sym (ap (λ (l : List ℕ). get_or l 0 0) e)))
same_words (x ∷ f) [] s t lf lg e = absurd (All-head (λ b. b ≢ 32) x f lf (ap (λ (l : List ℕ). get_or l 0 0) e))
same_words (x ∷ f) (y ∷ g) s t lf lg e =
    let same : x ≡ y = ap (λ (l : List ℕ). get_or l 0 0) e in
    let more = same_words f g s t (All-tail (λ b. b ≢ 32) x f lf) (All-tail (λ b. b ≢ 32) y g lg) (ap (λ (l : List ℕ). drop 1 l) e) in
    ((λ i. same i ∷ more.0 i), more.1)

pub no_first : (row first second : List ℕ) → IsWords row first second → IsNoWord first → IsNoRow row
no_first row first second words none f s a b others spells_a spells_b =
    let same = same_words f first s second others.lacks words.lacks (sym others.parts ∙ words.parts) in
    let P : List ℕ → Type 0 = λ l. SpellsWord l a in
    none a (subst P same.0 spells_a)

pub no_second : (row first second : List ℕ) → IsWords row first second → IsNoWord second → IsNoRow row
no_second row first second words none f s a b others spells_a spells_b =
    let same = same_words f first s second others.lacks words.lacks (sym others.parts ∙ words.parts) in
    let P : List ℕ → Type 0 = λ l. SpellsWord l b in
    none b (subst P same.1 spells_b)
