-- The spellings of one value differ only in bytes that may be others.
use Rattle.std.proofs.Common.{◌≡◌, ◌∙◌, ℕ, zero, suc, ◌+◌, ◌-◌, ◌<◌, Bool, not, true, false, eqb, List, [], ◌∷◌, ◌++◌, Some, get_or, length, set, refl, sym, ap, subst, arith, inl, inr, length-append}
use Rattle.std.specs.Int.{Width, byte_len, from_be_bytes, from_le_bytes, to_be_bytes, to_le_bytes, w16, w32, w128}
use Rattle.std.proofs.lemmas.Bool.{cases_eq, cases_lt, eqb-true, ne_eqb, not-false}
use Rattle.std.proofs.lemmas.List.{get_or-append_right, get_or-set_other, get_or-set_same, get_or_append_left, get_or_past, length-set, set-append_left, set-append_right}
use Rattle.std.proofs.lemmas.Nat.{le_bytes_4}
use Rattle.uuid.specs.Parts.{swap_fields}
use Rattle.ndr_core.specs.Items.{◌⨾◌, AreBytes, Item, bytes_of, checked, chunk, fixed, followed, number, number_at, padded, padding, seen, skip, together}
use Rattle.ndr_core.specs.Arrays.{SpellsMany, conformant, many, span, varying}
use Rattle.ndr_core.specs.Identifiers.{guid_item, handle_item}
use Rattle.ndr_core.specs.Laws.{DifferInFree, HasOneSpelling}
use Rattle.ndr_core.specs.Pointers.{is_some, optional, unique, when}
use Rattle.ndr_core.specs.Strings.{raw_string, string}
use Rattle.ndr_core.proofs.Bytes.{small_bytes}

-- ---- how texts differ

same_text : (Spells : List ℕ → Type 0) (x y : List ℕ) → x ≡ y → DifferInFree Spells x y
same_text Spells x y e = record { long = ap length e; each = λ i. inl (ap (λ (t : List ℕ). get_or t i 0) e) }

-- as texts of another value
pub wider : (Spells Holds : List ℕ → Type 0) (x y : List ℕ) → ((text : List ℕ) → Spells text → Holds text) → DifferInFree Spells x y → DifferInFree Holds x y
wider Spells Holds x y implies d = record {
  long = d.long;
  each = λ i.
      elim (d.each i) [
        | inl same ↦ inl same
        | inr free ↦ inr (λ byte some small. implies (set x i byte) (free byte some small))
      ];
}

-- one text behind another
both_differ : (First : List ℕ → Type 0) (Second : ℕ → List ℕ → Type 0) (Both : List ℕ → Type 0) (a b c d x y : List ℕ) → x ≡ a ++ b → y ≡ c ++ d → First a → Second (length a) b
    → ((u v : List ℕ) → First u → Second (length u) v → Both (u ++ v)) → DifferInFree First a c → DifferInFree (Second (length a)) b d → DifferInFree Both x y
both_differ First Second Both a b c d x y x_is y_is first second join one two = record {
  long = omega (arith, ap length x_is, ap length y_is, length-append a b, length-append c d, one.long, two.long);
  each = λ i.
      elim (cases_lt i (length a)) [
        | inl lt ↦ elim (one.each i) [
          | inl same ↦
              inl
              (ap (λ (t : List ℕ). get_or t i 0) x_is ∙ get_or_append_left a b 0 i lt ∙ same ∙ sym (get_or_append_left c d 0 i (omega (arith, lt, one.long)))
              ∙ sym (ap (λ (t : List ℕ). get_or t i 0) y_is))
          | inr free ↦
              inr
              (λ byte some small.
              subst Both (sym (ap (λ (t : List ℕ). set t i byte) x_is ∙ set-append_left a b i byte lt))
              (join (set a i byte) b (free byte some small) (subst (λ (n : ℕ). Second n b) (sym (length-set a i byte)) second)))
        ]
        | inr le ↦ elim (two.each (i - length a)) [
          | inl same ↦
              inl
              (ap (λ (t : List ℕ). get_or t i 0) x_is ∙ get_or-append_right a b (length a) i 0 refl le ∙ same ∙ sym (get_or-append_right c d (length a) i 0 (sym one.long) le)
              ∙ sym (ap (λ (t : List ℕ). get_or t i 0) y_is))
          | inr free ↦
              inr
              (λ byte some small.
              subst Both (sym (ap (λ (t : List ℕ). set t i byte) x_is ∙ set-append_right a b (length a) i byte refl le))
              (join a (set b (i - length a) byte) first (free byte some small)))
        ]
      ];
}

-- ---- bytes

chunk_alike : (size count at : ℕ) (a x y : List ℕ) → (chunk size count).Spells at a x → (chunk size count).Spells at a y → DifferInFree ((chunk size count).Spells at a) x y
chunk_alike size count at a x y (pad, pad_is, count_is, are, x_is) (other, other_is, counted, bytes, y_is) = record {
  long = omega (arith, ap length x_is, ap length y_is, length-append pad a, length-append other a, pad_is, other_is);
  each = λ i.
      elim (cases_lt i (padding size at)) [
        | inl lt ↦
            inr (λ byte some small. (set pad i byte, length-set pad i byte ∙ pad_is, count_is, are, ap (λ (t : List ℕ). set t i byte) x_is ∙ set-append_left pad a i byte (omega (arith, pad_is, lt))))
        | inr le ↦
            inl
            (ap (λ (t : List ℕ). get_or t i 0) x_is ∙ get_or-append_right pad a (padding size at) i 0 pad_is le ∙ sym (get_or-append_right other a (padding size at) i 0 other_is le)
            ∙ sym (ap (λ (t : List ℕ). get_or t i 0) y_is))
      ];
}

pub chunk_one : (size count : ℕ) → HasOneSpelling (chunk size count)
chunk_one size count = record { alike = chunk_alike size count }

pub bytes_one : (count : ℕ) → HasOneSpelling (bytes_of count)
bytes_one count = record { alike = λ at a x y s t. same_text ((bytes_of count).Spells at a) x y (s.2 ∙ sym t.2) }

pub skip_one : (count : ℕ) → HasOneSpelling (skip count)
skip_one count = record { alike = λ at a x y s t. record { long = s ∙ sym t; each = λ i. inr (λ byte some small. length-set x i byte ∙ s) } }

pub padded_one : (size : ℕ) → HasOneSpelling (padded size)
padded_one size = record { alike = λ at a x y s t. record { long = s ∙ sym t; each = λ i. inr (λ byte some small. length-set x i byte ∙ s) } }

-- ---- words

pub seen_one : {A B : Type 0} {item : Item A} (to : A → B) (from : B → A) → HasOneSpelling item → HasOneSpelling (seen to from item)
seen_one {item = item} to from is = record { alike = λ at b x y s t. wider (item.Spells at (from b)) ((seen to from item).Spells at b) x y (λ text spells. (s.0, spells)) (is.alike at (from b) x y s.1 t.1) }

pub followed_one : {A B : Type 0} {first : Item A} {second : A → Item B} → HasOneSpelling first → ((a : A) → HasOneSpelling (second a)) → HasOneSpelling (followed first second)
followed_one {first = first} {second = second} is are = record {
  alike = λ at ab x y s t.
      let one = is.alike at ab.0 s.0 t.0 s.3 t.3 in
      let back : (second ab.0).Spells (at + length s.0) ab.1 t.1 = subst (λ (n : ℕ). (second ab.0).Spells (at + n) ab.1 t.1) (sym one.long) t.4 in
      both_differ (first.Spells at ab.0) (λ n text. (second ab.0).Spells (at + n) ab.1 text) ((followed first second).Spells at ab) s.0 s.1 t.0 t.1 x y s.2 t.2 s.3 s.4 (λ u v f g. (u, v, refl, f, g)) one
      ((are ab.0).alike (at + length s.0) ab.1 s.1 t.1 s.4 back);
}

infixr 20 ◌⊛◌
pub ◌⊛◌ : {A B : Type 0} {first : Item A} {second : Item B} → HasOneSpelling first → HasOneSpelling second → HasOneSpelling (first ⨾ second)
is ⊛ are = followed_one is (λ a. are)

pub checked_one : {A : Type 0} {item : Item A} (size : ℕ) (good : A → Bool) → HasOneSpelling item → HasOneSpelling (checked size good item)
checked_one {item = item} size good is = record { alike = λ at a x y s t. wider (item.Spells at a) ((checked size good item).Spells at a) x y (λ text spells. (s.0, spells)) (is.alike at a x y s.1 t.1) }

pub fixed_one : {item : Item ℕ} (size n : ℕ) → HasOneSpelling item → HasOneSpelling (fixed size n item)
fixed_one size n is = record { alike = λ at a x y s t. is.alike at n x y s t }

pub together_one : {A : Type 0} {item : Item A} (size : ℕ) → HasOneSpelling item → HasOneSpelling (together size item)
together_one size is = record { alike = is.alike }

-- ---- numbers, identifiers and arrays

pub number_at_one : (size : ℕ) (w : Width) → HasOneSpelling (number_at size w)
number_at_one size w = seen_one (from_le_bytes w) (to_le_bytes w) (chunk_one size (byte_len w))

pub number_one : (w : Width) → HasOneSpelling (number w)
number_one w = number_at_one (byte_len w) w

pub guid_one : HasOneSpelling guid_item
guid_one = seen_one (from_be_bytes w128) (to_be_bytes w128) (seen_one swap_fields swap_fields (chunk_one 4 16))

pub handle_one : HasOneSpelling handle_item
handle_one = together_one 4 (seen_one _ _ (number_one w32 ⊛ guid_one))

pub conformant_one : (limit : ℕ) → HasOneSpelling (conformant limit)
conformant_one limit = record { alike = λ at n x y s t. wider ((number w32).Spells at n) ((conformant limit).Spells at n) x y (λ text spells. (s.0, spells)) ((number_one w32).alike at n x y s.1 t.1) }

span_one : HasOneSpelling span
span_one = number_one w32 ⊛ number_one w32

pub varying_one : (limit : ℕ) → HasOneSpelling (varying limit)
varying_one limit = record { alike = λ at n x y s t. wider (span.Spells at (0, n)) ((varying limit).Spells at n) x y (λ text spells. (s.0, spells)) (span_one.alike at (0, n) x y s.1 t.1) }

many_differ : {A : Type 0} (item : Item A) → HasOneSpelling item → (at : ℕ) (xs : List A) (x y : List ℕ) → SpellsMany item.Spells at xs x → SpellsMany item.Spells at xs y → DifferInFree (λ text. SpellsMany item.Spells at xs text) x y
many_differ item is at [] x y s t = same_text (λ text. SpellsMany item.Spells at [] text) x y (s ∙ sym t)
many_differ item is at (v ∷ vs) x y s t =
    let one = is.alike at v s.0 t.0 s.3 t.3 in
    let back : SpellsMany item.Spells (at + length s.0) vs t.1 = subst (λ (n : ℕ). SpellsMany item.Spells (at + n) vs t.1) (sym one.long) t.4 in
    both_differ (item.Spells at v) (λ n text. SpellsMany item.Spells (at + n) vs text) (λ text. SpellsMany item.Spells at (v ∷ vs) text) s.0 s.1 t.0 t.1 x y s.2 t.2 s.3 s.4 (λ u w f g. (u, w, refl, f, g)) one
    (many_differ item is (at + length s.0) vs s.1 t.1 s.4 back)

pub many_one : {A : Type 0} {item : Item A} (count : ℕ) → HasOneSpelling item → HasOneSpelling (many item count)
many_one {item = item} count is = record { alike = λ at xs x y s t. wider (λ text. SpellsMany item.Spells at xs text) ((many item count).Spells at xs) x y (λ text spells. (s.0, spells)) (many_differ item is at xs x y s.1 t.1) }

raw_one : HasOneSpelling raw_string
raw_one = followed_one span_one (λ head. many_one head.1 (number_one w16))

pub string_one : (limit : ℕ) → HasOneSpelling (string limit)
string_one limit = record {
  alike = λ at text x y s t.
      wider (raw_string.Spells at ((0, length text + 1), text ++ 0 ∷ [])) ((string limit).Spells at text) x y (λ bytes spells. (s.0, s.1, spells)) (raw_one.alike at ((0, length text + 1), text ++ 0 ∷ []) x y s.2 t.2);
}

-- ---- pointers

-- four bytes that aren't all 0
abbrev IsSome : List ℕ → Type 0
IsSome text = (n : ℕ) × (not (eqb n 0) ≡ true) × (from_le_bytes w32 (to_le_bytes w32 n) ≡ n) × (text ≡ to_le_bytes w32 n)

set_bytes : (bytes : List ℕ) (i byte : ℕ) → i < length bytes → byte < 256 → AreBytes bytes → AreBytes (set bytes i byte)
set_bytes bytes i byte lt small are k =
    elim (cases_eq k i) [
      | inl same ↦ subst (λ (m : ℕ). get_or (set bytes i byte) m 0 < 256) (sym same) (subst (λ (v : ℕ). v < 256) (sym (get_or-set_same bytes i byte 0 lt)) small)
      | inr other ↦ subst (λ (v : ℕ). v < 256) (sym (get_or-set_other bytes i k byte 0 other)) (are k)
    ]

all_zero : (i : ℕ) → get_or (to_le_bytes w32 0) i 0 ≡ 0
all_zero zero = refl
all_zero (suc zero) = refl
all_zero (suc (suc zero)) = refl
all_zero (suc (suc (suc zero))) = refl
all_zero (suc (suc (suc (suc i)))) = refl

not_zero : (n i byte : ℕ) (bytes : List ℕ) → to_le_bytes w32 n ≡ bytes → get_or bytes i 0 ≡ byte → 0 < byte → not (eqb n 0) ≡ true
not_zero n i byte bytes back at some =
    elim (cases_eq n 0) [
      | inl none ↦
          let zero_is : 0 ≡ byte = sym (all_zero i) ∙ ap (λ (m : ℕ). get_or (to_le_bytes w32 m) i 0) (sym none) ∙ ap (λ (t : List ℕ). get_or t i 0) back ∙ at in
          absurd (omega (arith, some, zero_is))
      | inr ne ↦ ap not (ne_eqb n 0 ne)
    ]

some_set : (text : List ℕ) (i byte : ℕ) → IsSome text → i < 4 → 0 < byte → byte < 256 → IsSome (set text i byte)
some_set text i byte s lt some small =
    let bytes : List ℕ = set text i byte in
    let four : length text ≡ 4 = ap length s.3 in
    let within : i < length text = omega (arith, lt, four) in
    let are : AreBytes bytes = set_bytes text i byte within small (subst AreBytes (sym s.3) (small_bytes 0 4 s.0)) in
    let n : ℕ = from_le_bytes w32 bytes in
    let back : to_le_bytes w32 n ≡ bytes = le_bytes_4 bytes n (length-set text i byte ∙ four) are refl in
    (n, not_zero n i byte bytes back (get_or-set_same text i byte 0 within) some, ap (from_le_bytes w32) back, sym back)

some_differ : (n m : ℕ) → IsSome (to_le_bytes w32 n) → DifferInFree IsSome (to_le_bytes w32 n) (to_le_bytes w32 m)
some_differ n m s = record {
  long = refl;
  each = λ i.
      elim (cases_lt i 4) [
        | inl lt ↦ inr (λ byte some small. some_set (to_le_bytes w32 n) i byte s lt some small)
        | inr le ↦ inl (get_or_past (to_le_bytes w32 n) i 0 le ∙ sym (get_or_past (to_le_bytes w32 m) i 0 le))
      ];
}

unique_alike : (at : ℕ) (present : Bool) (x y : List ℕ) → unique.Spells at present x → unique.Spells at present y → DifferInFree (unique.Spells at present) x y
unique_alike at true x y s t =
    both_differ (λ pad. length pad ≡ padding 4 at) (λ n text. IsSome text) (unique.Spells at true) s.2.1.0 (to_le_bytes w32 s.0) t.2.1.0 (to_le_bytes w32 t.0) x y s.2.1.4 t.2.1.4 s.2.1.1 (s.0, s.1, s.2.0, refl)
    (λ u v f g. (g.0, g.1, (g.2, (u, f, refl, small_bytes 0 4 g.0, ap (λ (w : List ℕ). u ++ w) g.3)))) ((padded_one 4).alike at tt s.2.1.0 t.2.1.0 s.2.1.1 t.2.1.1)
    (some_differ s.0 t.0 (s.0, s.1, s.2.0, refl))
unique_alike at false x y s t =
    let none : s.0 ≡ 0 = eqb-true s.0 0 (not-false (eqb s.0 0) s.1) in
    let also : t.0 ≡ 0 = eqb-true t.0 0 (not-false (eqb t.0 0) t.1) in
    wider ((number w32).Spells at 0) (unique.Spells at false) x y (λ text spells. (0, refl, spells))
    ((number_one w32).alike at 0 x y (subst (λ (n : ℕ). (number w32).Spells at n x) none s.2) (subst (λ (n : ℕ). (number w32).Spells at n y) also t.2))

pub unique_one : HasOneSpelling unique
unique_one = record { alike = unique_alike }

some_is : {A : Type 0} (a b : A) → Some a ≡ Some b → a ≡ b
some_is a b e = cc

when_one : {A : Type 0} {item : Item A} → HasOneSpelling item → (present : Bool) → HasOneSpelling (when present item)
when_one {A = A} {item = item} is true = record {
  alike = λ at v x y s t.
      let same : t.0 ≡ s.0 = some_is t.0 s.0 (sym t.1 ∙ s.1) in
      wider (item.Spells at s.0) ((when true item).Spells at v) x y (λ text spells. (s.0, s.1, spells)) (is.alike at s.0 x y s.2 (subst (λ (a : A). item.Spells at a y) same t.2));
}
when_one {item = item} is false = record { alike = λ at v x y s t. same_text ((when false item).Spells at v) x y (s.1 ∙ sym t.1) }

pub optional_one : {A : Type 0} {item : Item A} → HasOneSpelling item → HasOneSpelling (optional item)
optional_one is = seen_one (λ t. t.1) (λ v. (is_some v, v)) (followed_one unique_one (λ present. when_one is present))
