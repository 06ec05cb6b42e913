-- A number is read from its decimal text, and from nothing else.
use Rattle.std.proofs.Common.{◌≡◌, ◌≢◌, ◌<◌, ◌≤◌, ◌^◌, ℕ, zero, suc, Bool, true, false, cond, ◌&&◌, ltb, List, [], ◌∷◌, length, get_or, Option, Some, None, Result, Ok, refl, sym, ap, ◌∙◌, arith, bytes_eq}
use Rattle.std.specs.Prelude.{decimal}
use Rattle.std.specs.Str.Parse.{AllDigits, ParsesUnsigned, digits_value}
use Rattle.std.proofs.lemmas.Bool.Decides.{nat_tests}
use Rattle.std.proofs.lemmas.Fmt.{decimal-digits_value, decimal_digit, decimal_nonempty, digits_decimal, digits_value-decimal, first_decimal, parse-decimal}
use Rattle.std.proofs.lemmas.Result.{OkIff-at_ok}
use Rattle.std.proofs.lemmas.Slice.Eq.{bytes_eq-Decides}
use Rattle.std.proofs.lemmas.Str.Parse.{IsNumeralModel, digit_at, numerals_by_value, parse_plain, tells_digits}
use Rattle.script_lang.specs.Reading.{begins_number, number_in}

pub own : IsNumeralModel (AllDigits 10) (digits_value 10)
own = numerals_by_value (AllDigits 10) tells_digits

-- what the two tests say where they give a number, and the other way round
both_pass : (same small : Bool) (v n : ℕ) → cond (same && small) (Some v) None ≡ Some n → (same ≡ true) × (small ≡ true) × (v ≡ n)
both_pass true true v n e = (refl, refl, cc)
both_pass true false v n e = cc
both_pass false small v n e = cc

passed : (same small : Bool) (v : ℕ) → same ≡ true → small ≡ true → cond (same && small) (Some v) None ≡ Some v
passed true true v p q = refl
passed true false v p q = cc
passed false small v p q = cc

-- a number below the limit is read from its text
pub number_again : (limit n : ℕ) → n < limit → limit ≤ 2 ^ 64 → number_in limit (decimal n) ≡ Some n
number_again limit n below fits =
    let v = digits_value-decimal own n (omega arith) in
    let same : bytes_eq (decimal (digits_value 10 (decimal n))) (decimal n) ≡ true = (bytes_eq-Decides (decimal (digits_value 10 (decimal n))) (decimal n)).1 (ap decimal v) in
    let small : ltb (digits_value 10 (decimal n)) limit ≡ true = grind (arith, nat_tests) in
    passed _ _ (digits_value 10 (decimal n)) same small ∙ ap Some v

-- a word that is read as a number is its text
pub number_takes : (limit : ℕ) (word : List ℕ) (n : ℕ) → number_in limit word ≡ Some n → (n < limit) × (word ≡ decimal n)
number_takes limit word n e =
    let (same, small, is) = both_pass (bytes_eq (decimal (digits_value 10 word)) word) (ltb (digits_value 10 word) limit) (digits_value 10 word) n e in
    (grind (arith, nat_tests), sym ((bytes_eq-Decides (decimal (digits_value 10 word)) word).0 same) ∙ ap decimal is)

-- a word that is no number's text is read as none
pub no_number : (limit : ℕ) (word : List ℕ) → ((n : ℕ) → n < limit → word ≡ decimal n → ⊥) → number_in limit word ≡ None
no_number limit word none = by (number_in limit word) refl
  where
    by : (found : Option ℕ) → number_in limit word ≡ found → number_in limit word ≡ None
    by None e = e
    by (Some n) e = let (below, is) = number_takes limit word n e in absurd (none n below is)

-- ---- how the text of a number begins

begins : (ds : List ℕ) (n : ℕ) → AllDigits 10 ds → 0 < length ds → (0 < n → 48 < get_or ds 0 0) → (n ≡ 0 → length ds ≡ 1) → begins_number ds ≡ true
begins [] n digits some above zero_alone = absurd (omega arith)
begins (c ∷ []) n digits some above zero_alone =
    let digit = digit_at (c ∷ []) 0 digits (omega arith) in
    grind (arith, nat_tests)
begins (c ∷ d ∷ ds) zero digits some above zero_alone =
    let one : suc (suc (length ds)) ≡ 1 = zero_alone refl in
    absurd (omega arith)
begins (c ∷ d ∷ ds) (suc n) digits some above zero_alone =
    let digit = digit_at (c ∷ d ∷ ds) 0 digits (omega arith) in
    let first : 48 < c = above (omega arith) in
    grind (arith, nat_tests)

pub begins_decimal : (n : ℕ) → n < 2 ^ 64 → begins_number (decimal n) ≡ true
begins_decimal n small =
    begins (decimal n) n (digits_decimal own n small) (decimal_nonempty n small) (λ above. first_decimal n above small)
    (λ none. ap (λ k. length (decimal k)) none ∙ ap length (decimal_digit 0 (omega arith)))

no_plus : (word : List ℕ) → begins_number word ≡ true → get_or word 0 0 ≢ 43
no_plus [] begun is = cc
no_plus (c ∷ []) begun is = absurd (grind (arith, nat_tests))
no_plus (c ∷ d ∷ ds) begun is = absurd (grind (arith, nat_tests))

zero_alone : (word : List ℕ) → begins_number word ≡ true → get_or word 0 0 ≡ 48 → length word ≡ 1
zero_alone [] begun is = cc
zero_alone (c ∷ []) begun is = refl
zero_alone (c ∷ d ∷ ds) begun is = absurd (grind (arith, nat_tests))

-- ---- what `parse` gives

-- the text of a number, where the word begins so
pub parsed : {E : Type 0} (word : List ℕ) (n : ℕ) (r : Result ℕ E) → begins_number word ≡ true → ParsesUnsigned 64 10 word r → r ≡ Ok n → (n < 2 ^ 64) × (word ≡ decimal n)
parsed word n r begun parses ok =
    let ((digits, some, small), is) = OkIff-at_ok r _ (digits_value 10 word) n (parse_plain own 64 word r parses (no_plus word begun)) ok in
    let text = decimal-digits_value own word digits some (zero_alone word begun) small in
    (omega arith, sym text ∙ ap decimal (sym is))

-- a number where the word is its text
pub parses_decimal : {E : Type 0} (word : List ℕ) (n : ℕ) (r : Result ℕ E) → n < 2 ^ 64 → word ≡ decimal n → ParsesUnsigned 64 10 word r → r ≡ Ok n
parses_decimal word n r small is parses = parse-decimal 64 n word r small small is parses
