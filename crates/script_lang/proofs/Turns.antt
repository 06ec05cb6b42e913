-- What the rows so far spell, and the first row outside the grammar.
use Rattle.std.proofs.Common.{◌≡◌, ◌≢◌, ◌<◌, ◌+◌, ◌-◌, ℕ, Bool, true, false, cond, eqb, List, [], ◌∷◌, ◌++◌, length, get_or, take, map, Option, Some, None, Ok, Bor, refl, sym, ap, ◌∙◌, subst, arith, append-nil}
use Rattle.std.specs.Prelude.{All, IsUtf8, count_by, filter, option_to_list}
use Rattle.std.specs.Iterator.{Yields}
use Rattle.std.specs.List.{AllByRecursion, onto_first, slice_split}
use Rattle.std.proofs.lemmas.Bool.Decides.{nat_tests}
use Rattle.std.proofs.lemmas.Iterator.{YieldsList}
use Rattle.std.proofs.lemmas.Iterator.Consumers.{YieldsList-end, YieldsList-turn}
use Rattle.std.proofs.lemmas.List.{get_or_default, length_push, map_push, take_all}
use Rattle.std.proofs.lemmas.List.Elements.{All-cons, All-from_recursion, All-get_or, All-more, All-nil, All-push, All-weaker, filter_more}
use Rattle.std.proofs.lemmas.List.Sums.{count_by_more_no, count_by_more_yes}
use Rattle.script_lang.specs.declared.line.Line.{Line}
use Rattle.script_lang.specs.Grammar.{HasNoLineFeed, IsLine, spelling}
use Rattle.script_lang.specs.Reading.{Judges}
use Rattle.script_lang.specs.Script.{IsBadRow, IsFirstBad, IsRowOf, SpellLines, rows, says_something}
use Rattle.script_lang.proofs.Values.{Lacks}

-- ---- no row has a line feed

-- the parts round a byte lack it
parts_lack : (s : ℕ) (xs : List ℕ) → AllByRecursion (Lacks s) (slice_split (λ b. eqb b s) xs)
parts_lack s [] = (All-nil (λ b. eqb b s ≡ false), tt)
parts_lack s (x ∷ xs) = by (eqb x s) refl (slice_split (λ b. eqb b s) xs) (parts_lack s xs)
  where
    by : (t : Bool) → eqb x s ≡ t → (parts : List (List ℕ)) → AllByRecursion (Lacks s) parts → AllByRecursion (Lacks s) (cond t ([] ∷ parts) (onto_first x parts))
    by true is parts each = (All-nil (λ b. eqb b s ≡ false), each)
    by false is [] each = (All-cons (λ b. eqb b s ≡ false) x [] is (All-nil (λ b. eqb b s ≡ false)), tt)
    by false is (part ∷ parts) each = (All-cons (λ b. eqb b s ≡ false) x part is each.0, each.1)

pub no_line_feed : (bytes : List ℕ) (i : ℕ) (d : List ℕ) → i < length (rows bytes) → HasNoLineFeed (get_or (rows bytes) i d)
no_line_feed bytes i d within =
    All-weaker (λ b. eqb b 10 ≡ false) (λ b. b ≢ 10) (λ b lacks is. absurd (grind (arith, nat_tests))) (get_or (rows bytes) i d)
    (All-get_or (Lacks 10) (rows bytes) i d within (All-from_recursion (Lacks 10) (rows bytes) (parts_lack 10 bytes)))

-- ---- one row more

-- a row that passes spells one line more
spelled_more : {X : Type 0} (p : List ℕ → Bool) (f : X → List ℕ) (rs : List (List ℕ)) (i : ℕ) (xs : List X) (x : X) → i < length rs
    → filter p (take i rs) ≡ map f xs → p (get_or rs i []) ≡ true → get_or rs i [] ≡ f x → filter p (take (i + 1) rs) ≡ map f (xs ++ x ∷ [])
spelled_more p f rs i xs x within so_far passes is =
    filter_more p rs i [] within
    ∙ ap (λ b. filter p (take i rs) ++ cond b (get_or rs i [] ∷ []) []) passes
    ∙ ap (λ row. filter p (take i rs) ++ row ∷ []) is
    ∙ ap (λ ys. ys ++ f x ∷ []) so_far
    ∙ sym (map_push f xs x)

-- a row that fails spells none
spelled_same : {X : Type 0} (p : List ℕ → Bool) (f : X → List ℕ) (rs : List (List ℕ)) (i : ℕ) (xs : List X) → i < length rs
    → filter p (take i rs) ≡ map f xs → p (get_or rs i []) ≡ false → filter p (take (i + 1) rs) ≡ map f xs
spelled_same p f rs i xs within so_far fails =
    filter_more p rs i [] within ∙ ap (λ b. filter p (take i rs) ++ cond b (get_or rs i [] ∷ []) []) fails ∙ append-nil _ ∙ so_far

pub row_more : (rs : List (List ℕ)) (i : ℕ) (row : List ℕ) (lines : List Line) (found : Option Line) → i < length rs → get_or rs i [] ≡ row → Judges (Ok found) row
    → SpellLines (take i rs) lines → SpellLines (take (i + 1) rs) (lines ++ option_to_list found)
row_more rs i row lines None within is (text, silent) so_far = record {
  text = All-more IsUtf8 rs i [] within so_far.text (subst IsUtf8 (sym is) text);
  valid = subst (All IsLine) (sym (append-nil lines)) so_far.valid;
  spelled = spelled_same says_something spelling rs i lines within so_far.spelled (ap says_something is ∙ silent) ∙ ap (map spelling) (sym (append-nil lines));
}
row_more rs i row lines (Some line) within is (text, says, valid, spells) so_far = record {
  text = All-more IsUtf8 rs i [] within so_far.text (subst IsUtf8 (sym is) text);
  valid = All-push IsLine lines line so_far.valid valid;
  spelled = spelled_more says_something spelling rs i lines line within so_far.spelled (ap says_something is ∙ says) (is ∙ spells);
}

-- ---- the first row outside the grammar

pub first_bad : (bytes : List ℕ) (i number : ℕ) (row : List ℕ) (lines : List Line) → number ≡ i + 1 → i < length (rows bytes) → get_or (rows bytes) i [] ≡ row → IsBadRow row
    → SpellLines (take i (rows bytes)) lines → IsFirstBad bytes number
first_bad bytes i number row lines is within at bad so_far =
    let place : i ≡ number - 1 = omega arith in
    record {
      positive = omega arith;
      within = omega arith;
      bad = subst (λ k. IsBadRow (get_or (rows bytes) k [])) place (subst IsBadRow (sym at) bad);
      before = (lines, subst (λ k. SpellLines (take k (rows bytes)) lines) place so_far);
    }

-- ---- a loop over an iterator that gives the rows; what it has yielded comes first, since it tells the steps

-- the row that the loop is at
pub row_turn : {S : Type 0} {steps : S → Option (Bor (List ℕ)) → S → Type 0} {s : S} {rs : List (List ℕ)} (xs : List (Bor (List ℕ))) (t : S) → Yields steps s xs t
    → (r : Option (Bor (List ℕ))) (u : S) (row : Bor (List ℕ)) → r ≡ Some row → steps t r u → YieldsList steps (λ x. x.now) s rs → (length xs < length rs) × (get_or rs (length xs) [] ≡ row.now)
row_turn {rs = rs} xs t yielded r u row is step road =
    let (within, at) = YieldsList-turn road xs t yielded r u row is step in
    (within, get_or_default rs (length xs) [] row.now within ∙ sym at)

-- all rows were yielded
pub rows_end : {S : Type 0} {steps : S → Option (Bor (List ℕ)) → S → Type 0} {s : S} {rs : List (List ℕ)} (xs : List (Bor (List ℕ))) (t : S) → Yields steps s xs t
    → (r : Option (Bor (List ℕ))) (u : S) → r ≡ None → steps t r u → YieldsList steps (λ x. x.now) s rs → take (length xs) rs ≡ rs
rows_end {rs = rs} xs t yielded r u is step road =
    let count = (YieldsList-end road xs t yielded r u is step).1 in
    take_all _ _ (omega (arith, count))

-- the lines once this row is judged
pub row_done : (rs : List (List ℕ)) (xs : List (Bor (List ℕ))) (row : Bor (List ℕ)) (lines more : List Line) (found : Option Line) → length xs < length rs → get_or rs (length xs) [] ≡ row.now
    → Judges (Ok found) row.now → SpellLines (take (length xs) rs) lines → more ≡ lines ++ option_to_list found → SpellLines (take (length (xs ++ row ∷ [])) rs) more
row_done rs xs row lines more found within at judged so_far is =
    let one : length xs + 1 ≡ length (xs ++ row ∷ []) = sym (length_push xs row) in
    subst (λ k. SpellLines (take k rs) more) one (subst (SpellLines (take (length xs + 1) rs)) (sym is) (row_more rs (length xs) row.now lines found within at judged so_far))

-- ---- a loop that counts the rows that say something

count_more : (rs : List (List ℕ)) (xs : List (Bor (List ℕ))) (row : Bor (List ℕ)) (n m : ℕ) → n ≡ m → m ≡ count_by says_something (take (length xs + 1) rs) → n ≡ count_by says_something (take (length (xs ++ row ∷ [])) rs)
count_more rs xs row n m is count = is ∙ count ∙ ap (λ k. count_by says_something (take k rs)) (sym (length_push xs row))

-- a row that says something is counted
pub count_spoken : (rs : List (List ℕ)) (xs : List (Bor (List ℕ))) (row : Bor (List ℕ)) (n : ℕ) → length xs < length rs → says_something (get_or rs (length xs) []) ≡ true → n ≡ count_by says_something (take (length xs) rs)
    → n + 1 ≡ count_by says_something (take (length (xs ++ row ∷ [])) rs)
count_spoken rs xs row n within says so_far = count_more rs xs row (n + 1) _ (ap (λ k. k + 1) so_far) (sym (count_by_more_yes says_something rs (length xs) [] within says))

-- a row that says nothing isn't
pub count_silent : (rs : List (List ℕ)) (xs : List (Bor (List ℕ))) (row : Bor (List ℕ)) (n : ℕ) → length xs < length rs → says_something (get_or rs (length xs) []) ≡ false → n ≡ count_by says_something (take (length xs) rs)
    → n ≡ count_by says_something (take (length (xs ++ row ∷ [])) rs)
count_silent rs xs row n within silent so_far = count_more rs xs row n _ so_far (sym (count_by_more_no says_something rs (length xs) [] within silent))

-- the row that the loop is at, by its number
pub row_is : (rs : List (List ℕ)) (i index number : ℕ) → i < length rs → says_something (get_or rs i []) ≡ true → count_by says_something (take i rs) ≡ index → number ≡ i + 1 → IsRowOf rs index number
row_is rs i index number within says count is =
    let place : i ≡ number - 1 = omega arith in
    record {
      positive = omega arith;
      within = omega arith;
      says = subst (λ k. says_something (get_or rs k []) ≡ true) place says;
      before = subst (λ k. count_by says_something (take k rs) ≡ index) place count;
    }
