-- Bytes, reserved bytes, padding and numbers keep the laws.
use Rattle.std.proofs.Common.{◌≡◌, ℕ, zero, suc, ◌+◌, ◌%◌, ◌^◌, ◌<◌, ◌≤◌, false, ltb, List, [], ◌∷◌, ◌++◌, length, take, drop, Ok, refl, sym, ap, subst, ◌∙◌, append_assoc, arith, lit<}
use Rattle.std.specs.Int.{Width, w8, w16, w32, w64, byte_at, byte_len, bytes_low_first, from_le_bytes, to_le_bytes}
use Rattle.std.proofs.lemmas.Bool.{ltb-false, le-ltb}
use Rattle.std.proofs.lemmas.List.{take_at, drop_at, take-append-drop, length-append, length-take, length-drop, drop-drop}
use Rattle.std.proofs.lemmas.Nat.{le_bytes_2, le_bytes_4, le_bytes_8, from_le_bytes-to_le_bytes_2, from_le_bytes-to_le_bytes_4, from_le_bytes-to_le_bytes_8}
use Rattle.ndr_core.specs.declared.refusal.NdrBad.TheVariants.{Short}
use Rattle.ndr_core.specs.Cursor.{Cursor}
use Rattle.ndr_core.specs.Items.{AreBytes, bytes_of, chunk, number, number_at, padded, padding, skip, zeros}
use Rattle.ndr_core.specs.Laws.{GrowAlike, IsLawful, Took, Wrote}
use Rattle.ndr_core.proofs.Steps.{guard_ok, AreBytes-drop, AreBytes-take}
use Rattle.ndr_core.proofs.Words.{seen_lawful}

abbrev pub HasBytes : ℕ → List ℕ → Type 0
HasBytes count bytes = (length bytes ≡ count) × AreBytes bytes

chunk_sound : (size count : ℕ) (old new : Cursor) (a : List ℕ) → AreBytes old.rest → (chunk size count).reads old ≡ Ok (a, new) → Took (chunk size count) old a new
chunk_sound size count old new a are e =
    let p = padding size old.at in
    let g = guard_ok (ltb (length old.rest) (p + count)) (Short (old.at + p)) (take count (drop p old.rest), record { at = old.at + (p + count); rest = drop (p + count) old.rest }) (a, new) e in
    let long : p + count ≤ length old.rest = ltb-false _ _ g.0 in
    let text : List ℕ = take p old.rest ++ take count (drop p old.rest) in
    let behind : drop count (drop p old.rest) ≡ drop (p + count) old.rest = drop-drop count p old.rest in
    let parts : old.rest ≡ text ++ drop (p + count) old.rest =
    sym (take-append-drop p old.rest) ∙ ap (λ (r : List ℕ). take p old.rest ++ r) (sym (take-append-drop count (drop p old.rest)) ∙ ap (λ (r : List ℕ). take count (drop p old.rest) ++ r) behind) ∙ sym (append_assoc (take p old.rest) (take count (drop p old.rest)) (drop (p + count) old.rest)) in
    let pad_is : length (take p old.rest) ≡ p = omega (arith, length-take p old.rest) in
    let count_is : length (take count (drop p old.rest)) ≡ count = omega (arith, length-take count (drop p old.rest), length-drop p old.rest) in
    let made : Took (chunk size count) old (take count (drop p old.rest)) (record { at = old.at + (p + count); rest = drop (p + count) old.rest }) = record {
      text = text;
      parts = parts;
      place = omega (arith, length-append (take p old.rest) (take count (drop p old.rest)));
      bytes = AreBytes-drop (p + count) old.rest are;
      spells = (take p old.rest, pad_is, count_is, AreBytes-take count (drop p old.rest) (AreBytes-drop p old.rest are), refl);
    } in
    subst (λ (x : List ℕ × Cursor). Took (chunk size count) old x.0 x.1) g.1 made

chunk_whole : (size count at : ℕ) (a text rest : List ℕ) → (chunk size count).Spells at a text → (chunk size count).reads (record { at = at; rest = text ++ rest }) ≡ Ok (a, record { at = at + length text; rest = rest })
chunk_whole size count at a text rest (pad, pad_is, count_is, are, text_is) =
    let p = padding size at in
    let whole : text ++ rest ≡ pad ++ (a ++ rest) = ap (λ (t : List ℕ). t ++ rest) text_is ∙ append_assoc pad a rest in
    let size_is : p + count ≡ length text = omega (arith, ap length text_is, length-append pad a) in
    let long : ltb (length (text ++ rest)) (p + count) ≡ false = le-ltb _ _ (omega (arith, length-append text rest)) in
    let front : drop p (text ++ rest) ≡ a ++ rest = ap (drop p) whole ∙ drop_at pad (a ++ rest) p pad_is in
    let value : take count (drop p (text ++ rest)) ≡ a = ap (take count) front ∙ take_at a rest count count_is in
    let behind : drop (p + count) (text ++ rest) ≡ rest = drop_at text rest (p + count) (sym size_is) in
    rw (long, value, behind, size_is) refl

length-replicate : (n : ℕ) → length (zeros n) ≡ n
length-replicate zero = refl
length-replicate (suc n) = ap suc (length-replicate n)

chunk_written : (size count : ℕ) (out a : List ℕ) → HasBytes count a → Wrote (chunk size count) out a
chunk_written size count out a fits = record {
  text = zeros (padding size (length out)) ++ a;
  parts = append_assoc out (zeros (padding size (length out))) a;
  spells = (zeros (padding size (length out)), length-replicate (padding size (length out)), fits.0, fits.1, refl);
}

chunk_placed : (size : ℕ) (x y a : List ℕ) → length x ≡ length y → GrowAlike x y (x ++ zeros (padding size (length x)) ++ a) (y ++ zeros (padding size (length y)) ++ a)
chunk_placed size x y a e = (
  zeros (padding size (length x)) ++ a,
  append_assoc x (zeros (padding size (length x))) a,
  append_assoc y (zeros (padding size (length y))) a ∙ ap (λ (n : ℕ). y ++ (zeros (padding size n) ++ a)) (sym e),
)

pub chunk_lawful : (size count : ℕ) → IsLawful (chunk size count) (HasBytes count)
chunk_lawful size count = record { sound = chunk_sound size count; whole = chunk_whole size count; written = chunk_written size count; placed = chunk_placed size }

-- ---- bytes and reserved bytes

pub bytes_of_lawful : (count : ℕ) → IsLawful (bytes_of count) (HasBytes count)
bytes_of_lawful count = record {
  sound = λ old new a are e.
      let g = guard_ok (ltb (length old.rest) count) (Short old.at) (take count old.rest, record { at = old.at + count; rest = drop count old.rest }) (a, new) e in
      let long : count ≤ length old.rest = ltb-false _ _ g.0 in
      let count_is : length (take count old.rest) ≡ count = omega (arith, length-take count old.rest) in
      let made : Took (bytes_of count) old (take count old.rest) (record { at = old.at + count; rest = drop count old.rest }) = record {
        text = take count old.rest;
        parts = sym (take-append-drop count old.rest);
        place = ap (λ n. old.at + n) (sym count_is);
        bytes = AreBytes-drop count old.rest are;
        spells = (count_is, AreBytes-take count old.rest are, refl);
      } in
      subst (λ (x : List ℕ × Cursor). Took (bytes_of count) old x.0 x.1) g.1 made;
  whole = λ at a text rest spells.
      let size_is : length text ≡ count = ap length spells.2 ∙ spells.0 in
      let long : ltb (length (text ++ rest)) count ≡ false = le-ltb _ _ (omega (arith, length-append text rest)) in
      rw (long, take_at text rest count size_is, drop_at text rest count size_is, size_is, spells.2) refl;
  written = λ out a fits. record { text = a; parts = refl; spells = (fits.0, fits.1, refl) };
  placed = λ x y a e. (a, refl, refl);
}

pub skip_lawful : (count : ℕ) → IsLawful (skip count) (λ a. Unit {0})
skip_lawful count = record {
  sound = λ old new a are e.
      let g = guard_ok (ltb (length old.rest) count) (Short old.at) (tt, record { at = old.at + count; rest = drop count old.rest }) (a, new) e in
      let long : count ≤ length old.rest = ltb-false _ _ g.0 in
      let count_is : length (take count old.rest) ≡ count = omega (arith, length-take count old.rest) in
      let made : Took (skip count) old tt (record { at = old.at + count; rest = drop count old.rest }) = record {
        text = take count old.rest;
        parts = sym (take-append-drop count old.rest);
        place = ap (λ n. old.at + n) (sym count_is);
        bytes = AreBytes-drop count old.rest are;
        spells = count_is;
      } in
      subst (λ (x : Unit {0} × Cursor). Took (skip count) old x.0 x.1) g.1 made;
  whole = λ at a text rest spells.
      let long : ltb (length (text ++ rest)) count ≡ false = le-ltb _ _ (omega (arith, length-append text rest)) in
      rw (long, drop_at text rest count spells, spells) refl;
  written = λ out a fits. record { text = zeros count; parts = refl; spells = length-replicate count };
  placed = λ x y a e. (zeros count, refl, refl);
}

pub padded_lawful : (size : ℕ) → IsLawful (padded size) (λ a. Unit {0})
padded_lawful size = record {
  sound = λ old new a are e.
      let t = (skip_lawful (padding size old.at)).sound old new a are e in
      record { text = t.text; parts = t.parts; place = t.place; bytes = t.bytes; spells = t.spells };
  whole = λ at a text rest spells. (skip_lawful (padding size at)).whole at a text rest spells;
  written = λ out a fits. record { text = zeros (padding size (length out)); parts = refl; spells = length-replicate (padding size (length out)) };
  placed = λ x y a e. (zeros (padding size (length x)), refl, ap (λ (n : ℕ). y ++ zeros (padding size n)) (sym e));
}

-- ---- numbers

pub small_byte : (i n : ℕ) → byte_at i n < 256
small_byte zero n = omega arith
small_byte (suc i) n = omega arith

pub small_bytes : (from count n : ℕ) → AreBytes (bytes_low_first from count n)
small_bytes from zero n i = lit< tt
small_bytes from (suc count) n zero = small_byte from n
small_bytes from (suc count) n (suc i) = small_bytes (suc from) count n i

one_byte : (bytes : List ℕ) → length bytes ≡ 1 → AreBytes bytes → to_le_bytes w8 (from_le_bytes w8 bytes) ≡ bytes
one_byte [] len fits = absurd (omega arith)
one_byte (b ∷ []) len fits =
    let same : b % 256 ≡ b = omega (arith, fits 0) in
    ap (λ (n : ℕ). n ∷ []) same
one_byte (b ∷ c ∷ bytes) len fits = absurd (omega arith)

record IsWide (w : Width) (limit : ℕ) : Type 0 where
  len : (n : ℕ) → length (to_le_bytes w n) ≡ byte_len w
  small : (n : ℕ) → AreBytes (to_le_bytes w n)
  back : (bytes : List ℕ) → length bytes ≡ byte_len w → AreBytes bytes → to_le_bytes w (from_le_bytes w bytes) ≡ bytes
  again : (n : ℕ) → n < limit → from_le_bytes w (to_le_bytes w n) ≡ n

number_lawful_by : (size : ℕ) (w : Width) (limit : ℕ) → IsWide w limit → IsLawful (number_at size w) (λ n. n < limit)
number_lawful_by size w limit wide =
    let is = seen_lawful (from_le_bytes w) (to_le_bytes w) (chunk size (byte_len w)) (HasBytes (byte_len w)) (chunk_lawful size (byte_len w)) (λ at a text spells. wide.back a spells.2 spells.3) in
    record { sound = is.sound; whole = is.whole; written = λ out n lt. is.written out n (wide.again n lt, (wide.len n, wide.small n)); placed = is.placed }

pub number_32_lawful : IsLawful (number w32) (λ n. n < 2 ^ 32)
number_32_lawful = number_lawful_by 4 w32 (2 ^ 32) (record { len = λ n. refl; small = λ n. small_bytes 0 4 n; back = λ bytes len fits. le_bytes_4 bytes _ len fits refl; again = λ n lt. from_le_bytes-to_le_bytes_4 n lt })

pub number_64_lawful : IsLawful (number w64) (λ n. n < 2 ^ 64)
number_64_lawful = number_lawful_by 8 w64 (2 ^ 64) (record { len = λ n. refl; small = λ n. small_bytes 0 8 n; back = λ bytes len fits. le_bytes_8 bytes _ len fits refl; again = λ n lt. from_le_bytes-to_le_bytes_8 n lt })

pub number_16_lawful : IsLawful (number w16) (λ n. n < 2 ^ 16)
number_16_lawful = number_lawful_by 2 w16 (2 ^ 16) (record { len = λ n. refl; small = λ n. small_bytes 0 2 n; back = λ bytes len fits. le_bytes_2 bytes _ len fits refl; again = λ n lt. from_le_bytes-to_le_bytes_2 n lt })

pub number_8_at_lawful : (size : ℕ) → IsLawful (number_at size w8) (λ n. n < 2 ^ 8)
number_8_at_lawful size = number_lawful_by size w8 (2 ^ 8) (record { len = λ n. refl; small = λ n. small_bytes 0 1 n; back = one_byte; again = λ n lt. omega arith })

pub number_8_lawful : IsLawful (number w8) (λ n. n < 2 ^ 8)
number_8_lawful = number_8_at_lawful 1
