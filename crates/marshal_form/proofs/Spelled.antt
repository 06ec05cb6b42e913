-- Where each field is right, the bytes are spelled.
use Rattle.std.proofs.Common.{◌≡◌, ◌<◌, ◌≤◌, ◌+◌, ◌-◌, ℕ, List, ◌++◌, refl, sym, ap, ◌∙◌, arith, inl, inr, get_or, length, take, drop, lit<}
use Rattle.std.specs.Prelude.{All, slice_range}
use Rattle.std.specs.Int.{w32, w64, from_le_bytes, to_le_bytes}
use Rattle.std.specs.List.{AllByRecursion}
use Rattle.std.proofs.lemmas.Bool.{cases_lt}
use Rattle.std.proofs.lemmas.List.{drop-drop, get_or-drop, get_or-take, get_or_past, length-drop, length-take, take-append-drop}
use Rattle.std.proofs.lemmas.Nat.{le_bytes_4, le_bytes_8}
use Rattle.std.proofs.lemmas.Slice.Eq.{bytes_eq-Decides}
use Rattle.marshal_form.specs.declared.meta.Meta.{Meta}
use Rattle.marshal_form.specs.Spelling.{magic, spelling}
use Rattle.marshal_form.specs.Fields.{IsForm, IsRight, attributes_in, fixed_field, fields, length_in}

-- every place of a list has a byte, or nothing
abbrev pub AreBytes : List ℕ → Type 0
AreBytes form = (i : ℕ) → get_or form i 0 < 256

bytes_from_All : (form : List ℕ) → All (λ b. b < 256) form → AreBytes form
bytes_from_All form all i =
    elim (cases_lt i (length form)) [
      | inl within ↦ all i 0 within
      | inr past ↦ rw (get_or_past form i 0 past) (lit< tt)
    ]

-- what stands in a field, and what comes behind it
cut_at : (form : List ℕ) (at size : ℕ) → drop at form ≡ take size (drop at form) ++ drop (at + size) form
cut_at form at size = sym (take-append-drop size (drop at form)) ∙ ap (λ (rest : List ℕ). take size (drop at form) ++ rest) (drop-drop size at form)

bytes_at : (form : List ℕ) (at size : ℕ) → AreBytes form → AreBytes (take size (drop at form))
bytes_at form at size bytes i =
    elim (cases_lt i size) [
      | inl within ↦ rw (get_or-take size (drop at form) i 0 within, get_or-drop at form i 0) (bytes (at + i))
      | inr past ↦ rw (get_or_past (take size (drop at form)) i 0 (omega (arith, length-take size (drop at form)))) (lit< tt)
    ]

length_at : (form : List ℕ) (at size : ℕ) → at + size ≤ length form → length (take size (drop at form)) ≡ size
length_at form at size within = omega (arith, length-take size (drop at form), length-drop at form)

-- a field that holds stated bytes
exact_at : (form : List ℕ) (at : ℕ) (bytes : List ℕ) → IsRight form (fixed_field at bytes) → drop at form ≡ bytes ++ drop (at + length bytes) form
exact_at form at bytes right =
    let width : at + length bytes - at ≡ length bytes = omega arith in
    let same : take (at + length bytes - at) (drop at form) ≡ bytes = (bytes_eq-Decides (slice_range form at (at + length bytes)) bytes).0 right.1 in
    let found : take (length bytes) (drop at form) ≡ bytes = ap (λ (n : ℕ). take n (drop at form)) (sym width) ∙ same in
    cut_at form at (length bytes) ∙ ap (λ (front : List ℕ). front ++ drop (at + length bytes) form) found

-- fields that hold numbers
number_32_at : (form : List ℕ) (at : ℕ) → AreBytes form → at + 4 ≤ length form → drop at form ≡ to_le_bytes w32 (from_le_bytes w32 (take 4 (drop at form))) ++ drop (at + 4) form
number_32_at form at bytes within =
    cut_at form at 4 ∙ ap (λ (front : List ℕ). front ++ drop (at + 4) form)
    (sym (le_bytes_4 (take 4 (drop at form)) _ (length_at form at 4 within) (bytes_at form at 4 bytes) refl))

number_64_at : (form : List ℕ) (at : ℕ) → AreBytes form → at + 8 ≤ length form → drop at form ≡ to_le_bytes w64 (from_le_bytes w64 (take 8 (drop at form))) ++ drop (at + 8) form
number_64_at form at bytes within =
    cut_at form at 8 ∙ ap (λ (front : List ℕ). front ++ drop (at + 8) form)
    (sym (le_bytes_8 (take 8 (drop at form)) _ (length_at form at 8 within) (bytes_at form at 8 bytes) refl))

-- each field in its turn
spelled : (form : List ℕ) → AreBytes form → AllByRecursion (IsRight form) (fields form) → length_in form ≡ length (drop 44 form)
    → form ≡ spelling (record { attributes = attributes_in form }) (drop 44 form)
spelled form bytes (at_0, (at_4, (at_8, (at_12, (at_16, (at_24, (at_28, (at_32, (at_36, rest))))))))) whole =
    exact_at form 0 magic at_0 ∙ ap (λ (r : List ℕ). magic ++ r)
    (exact_at form 4 (to_le_bytes w32 1) at_4 ∙ ap (λ (r : List ℕ). to_le_bytes w32 1 ++ r)
    (exact_at form 8 (to_le_bytes w32 1) at_8 ∙ ap (λ (r : List ℕ). to_le_bytes w32 1 ++ r)
    (exact_at form 12 (to_le_bytes w32 0) at_12 ∙ ap (λ (r : List ℕ). to_le_bytes w32 0 ++ r)
    (exact_at form 16 (to_le_bytes w64 4) at_16 ∙ ap (λ (r : List ℕ). to_le_bytes w64 4 ++ r)
    (number_32_at form 24 bytes at_24.0 ∙ ap (λ (r : List ℕ). to_le_bytes w32 (attributes_in form) ++ r)
    (exact_at form 28 (to_le_bytes w32 2) at_28 ∙ ap (λ (r : List ℕ). to_le_bytes w32 2 ++ r)
    (exact_at form 32 (to_le_bytes w32 0) at_32 ∙ ap (λ (r : List ℕ). to_le_bytes w32 0 ++ r)
    (number_64_at form 36 bytes at_36.0 ∙ ap (λ (n : ℕ). to_le_bytes w64 n ++ drop 44 form) whole))))))))

-- a form is the spelling of its file
pub form_spelled : (form : List ℕ) (meta : Meta) (contents : List ℕ) → AreBytes form → IsForm form meta contents → form ≡ spelling meta contents
form_spelled form meta contents bytes is =
    let same : record { attributes = attributes_in form } ≡ meta = λ x. record { attributes = is.attributes x } in
    spelled form bytes is.right (is.whole ∙ ap length (sym is.behind)) ∙ ap (λ (m : Meta). spelling m (drop 44 form)) same ∙ ap (spelling meta) is.behind

pub forms_are_spellings : (form : List ℕ) (meta : Meta) (contents : List ℕ) → All (λ b. b < 256) form → IsForm form meta contents → form ≡ spelling meta contents
forms_are_spellings form meta contents all is = form_spelled form meta contents (bytes_from_All form all) is
