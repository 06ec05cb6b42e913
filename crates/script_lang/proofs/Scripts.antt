-- What holds of every script.
use Rattle.std.proofs.Common.{◌≡◌, ◌≢◌, inl, inr, ◌<◌, ◌≤◌, ◌-◌, ℕ, zero, suc, Bool, true, false, cond, eqb, List, [], ◌∷◌, ◌++◌, length, get_or, take, drop, map, Option, Some, None, MatchOption, length-append, refl, sym, ap, ◌∙◌, subst, arith}
use Rattle.std.specs.Prelude.{IsUtf8, count_by, filter, slice_get}
use Rattle.std.specs.Option.{option_map}
use Rattle.std.specs.List.{AllByRecursion}
use Rattle.std.proofs.lemmas.Bool.Decides.{nat_tests}
use Rattle.std.proofs.lemmas.List.{get_or-take, length-map, length-take, take-map, take-take}
use Rattle.std.proofs.lemmas.List.Elements.{All-cons, All-nil, All-take, All-weaker, filter-append, recursion_from_All}
use Rattle.std.proofs.lemmas.List.Splits.{slice_split_none}
use Rattle.std.proofs.lemmas.List.Sums.{length-filter, sum_by-take-le}
use Rattle.std.proofs.lemmas.Option.{slice_get-get_or, slice_get-map}
use Rattle.std.proofs.Math.Seq.{get_or-append_seam, split_at, take-append_seam}
use Rattle.script_lang.specs.declared.line.Line.{Line}
use Rattle.script_lang.specs.declared.line.Line.TheVariants.{Member, Put, Fill, Mkdir, Move, Remove, Consume, Change, Pull, Install, Drain, Show, Tree, Sums, Count}
use Rattle.script_lang.specs.Grammar.{HasNoLineFeed, IsLine, spelling}
use Rattle.script_lang.specs.Laws.{FirstBadRowsAreOne, LinesStandInRows, ScriptsHaveNoBadRow, ScriptsHaveOneList, SpellingsAreScripts}
use Rattle.script_lang.specs.Script.{IsBadRow, IsFirstBad, SpellLines, rows, says_something}
use Rattle.script_lang.proofs.Lines.{line_of, read_again}
use Rattle.script_lang.proofs.Spaces.{cut}
use Rattle.script_lang.proofs.Texts.{spelling_is_text}

-- ---- a spelling is a script

one_row : (bytes : List ℕ) → HasNoLineFeed bytes → rows bytes ≡ bytes ∷ []
one_row bytes none =
    slice_split_none (λ b. eqb b 10) bytes (All-weaker (λ b. b ≢ 10) (λ b. eqb b 10 ≡ false) (λ b apart. grind (arith, nat_tests)) bytes none)

says : (line : Line) → says_something (spelling line) ≡ true
says (Member name kind) = refl
says (Put name path text) = refl
says (Fill name path bytes) = refl
says (Mkdir name path) = refl
says (Move name from to) = refl
says (Remove name path) = refl
says (Consume name moment) = refl
says (Change name path moment) = refl
says (Pull name other) = refl
says (Install name) = refl
says (Drain name) = refl
says (Show name) = refl
says (Tree name) = refl
says (Sums name) = refl
says (Count name) = refl

pub spellings_are_scripts : SpellingsAreScripts
spellings_are_scripts line valid =
    let text = spelling_is_text line valid in
    subst (λ found. SpellLines found (line ∷ [])) (sym (one_row (spelling line) text.one_row))
    (record {
      text = All-cons IsUtf8 (spelling line) [] text.utf8 (All-nil IsUtf8);
      valid = All-cons IsLine line [] valid (All-nil IsLine);
      spelled = ap (λ b. cond b (spelling line ∷ []) []) (says line);
    })

-- ---- a script has one list of lines

-- two lines in form that are spelled alike are one
spelled_alike : (a b : Line) → IsLine a → IsLine b → spelling a ≡ spelling b → a ≡ b
spelled_alike a b a_valid b_valid alike =
    let read : Some a ≡ Some b = sym (read_again a a_valid) ∙ ap (λ row. line_of (cut 3 row)) alike ∙ read_again b b_valid in
    cc

all_spelled_alike : (a b : List Line) → AllByRecursion IsLine a → AllByRecursion IsLine b → map spelling a ≡ map spelling b → a ≡ b
all_spelled_alike [] [] a_valid b_valid alike = refl
all_spelled_alike [] (y ∷ ys) a_valid b_valid alike = cc
all_spelled_alike (x ∷ xs) [] a_valid b_valid alike = cc
all_spelled_alike (x ∷ xs) (y ∷ ys) a_valid b_valid alike =
    let first : spelling x ≡ spelling y = cc in
    let others : map spelling xs ≡ map spelling ys = cc in
    let head = spelled_alike x y a_valid.0 b_valid.0 first in
    let tail = all_spelled_alike xs ys a_valid.1 b_valid.1 others in
    λ i. head i ∷ tail i

pub scripts_have_one_list : ScriptsHaveOneList
scripts_have_one_list bytes lines others is is_too =
    all_spelled_alike lines others (recursion_from_All IsLine lines is.valid) (recursion_from_All IsLine others is_too.valid) (sym is.spelled ∙ is_too.spelled)

-- ---- a script has no bad row

-- a row that passes is among the passed
pub passed_row : {X : Type 0} (P : X → Type 0) (p : List ℕ → Bool) (f : X → List ℕ) (rs : List (List ℕ)) (xs : List X) (k : ℕ)
    → AllByRecursion P xs → filter p rs ≡ map f xs → k < length rs → p (get_or rs k []) ≡ true → (x : X) × P x × (get_or rs k [] ≡ f x)
passed_row P p f [] xs k each is within passes = absurd (omega arith)
passed_row {X = X} P p f (r ∷ rs) xs k each is within passes = by (p r) refl xs each is k within passes (λ ys j. passed_row P p f rs ys j)
  where
    by : (b : Bool) → p r ≡ b → (xs : List X) → AllByRecursion P xs → cond b (r ∷ filter p rs) (filter p rs) ≡ map f xs → (k : ℕ) → k < length (r ∷ rs) → p (get_or (r ∷ rs) k []) ≡ true
        → ((ys : List X) (j : ℕ) → AllByRecursion P ys → filter p rs ≡ map f ys → j < length rs → p (get_or rs j []) ≡ true → (x : X) × P x × (get_or rs j [] ≡ f x))
        → (x : X) × P x × (get_or (r ∷ rs) k [] ≡ f x)
    by true tested [] each is k within passes rest = absurd (cc)
    by true tested (x ∷ xs) each is zero within passes rest = (x, each.0, cc)
    by true tested (x ∷ xs) each is (suc k) within passes rest = let others : filter p rs ≡ map f xs = cc in rest xs k each.1 others (omega arith) passes
    by false tested xs each is zero within passes rest = absurd (cc)
    by false tested xs each is (suc k) within passes rest = rest xs k each is (omega arith) passes

-- rows that spell lines are none outside the grammar
none_is_bad : (rs : List (List ℕ)) (lines : List Line) (k : ℕ) → SpellLines rs lines → k < length rs → IsBadRow (get_or rs k []) → ⊥
none_is_bad rs lines k spell within bad = by bad
  where
    by : IsBadRow (get_or rs k []) → ⊥
    by (inl no_text) = no_text (spell.text k [] within)
    by (inr (says, unspelled)) =
        let (line, valid, is) = passed_row IsLine says_something spelling rs lines k (recursion_from_All IsLine lines spell.valid) spell.spelled within says in
        unspelled line valid is

pub scripts_have_no_bad_row : ScriptsHaveNoBadRow
scripts_have_no_bad_row bytes lines number is first = none_is_bad (rows bytes) lines (number - 1) is (omega (arith, first.positive, first.within)) first.bad

-- ---- the first bad row is one

-- no bad row comes before the first
not_before : (bytes : List ℕ) (number other : ℕ) → IsFirstBad bytes number → IsFirstBad bytes other → number < other → ⊥
not_before bytes number other first second earlier =
    let (lines, spell) = second.before in
    let place : number - 1 < other - 1 = omega (arith, first.positive) in
    let within : number - 1 < length (take (other - 1) (rows bytes)) = omega (arith, first.positive, first.within, second.within, length-take (other - 1) (rows bytes)) in
    none_is_bad (take (other - 1) (rows bytes)) lines (number - 1) spell within (subst IsBadRow (sym (get_or-take (other - 1) (rows bytes) (number - 1) [] place)) first.bad)

pub first_bad_rows_are_one : FirstBadRowsAreOne
first_bad_rows_are_one bytes number other first second =
    let low = not_before bytes number other first second in
    let high = not_before bytes other number second first in
    omega arith

-- ---- each line stands in its row

-- what is mapped to a list, cut at one of its places
mapped_at : {X : Type 0} (f : X → List ℕ) (xs : List X) (front : List (List ℕ)) (row : List ℕ) (back : List (List ℕ)) → map f xs ≡ front ++ row ∷ back
    → (front ≡ map f (take (length front) xs)) × MatchOption (slice_get xs (length front)) ⊥ (λ x. row ≡ f x)
mapped_at {X = X} f xs front row back is = (sym (sym (take-map f (length front) xs) ∙ ap (take (length front)) is ∙ take-append_seam front (row ∷ back)), by (slice_get xs (length front)) at)
  where
    at : option_map f (slice_get xs (length front)) ≡ Some row
    at =
        sym (slice_get-map f xs (length front)) ∙ ap (λ l. slice_get l (length front)) is
        ∙ slice_get-get_or (front ++ row ∷ back) (length front) [] (omega (arith, length-append front (row ∷ back)))
        ∙ ap Some (get_or-append_seam front row back [])

    by : (found : Option X) → option_map f found ≡ Some row → MatchOption found ⊥ (λ x. row ≡ f x)
    by None e = cc
    by (Some x) e = cc

-- rows that spell lines, cut at one that says something
cut_lines : (rs : List (List ℕ)) (lines : List Line) (k index : ℕ) → SpellLines rs lines → k < length rs → says_something (get_or rs k []) ≡ true → count_by says_something (take k rs) ≡ index
    → MatchOption (slice_get lines index) ⊥ (λ line. get_or rs k [] ≡ spelling line) × SpellLines (take k rs) (take index lines)
cut_lines rs lines k index spell within says count =
    let row = get_or rs k [] in
    let parts : map spelling lines ≡ filter says_something (take k rs) ++ row ∷ filter says_something (drop (suc k) rs) =
    sym spell.spelled ∙ ap (filter says_something) (split_at rs k [] within)
    ∙ filter-append says_something (take k rs) (row ∷ drop (suc k) rs)
    ∙ ap (λ b. filter says_something (take k rs) ++ cond b (row ∷ filter says_something (drop (suc k) rs)) (filter says_something (drop (suc k) rs))) says in
    let (before, here) = mapped_at spelling lines (filter says_something (take k rs)) row (filter says_something (drop (suc k) rs)) parts in
    let place : length (filter says_something (take k rs)) ≡ index = length-filter says_something (take k rs) ∙ count in (
      subst (λ i. MatchOption (slice_get lines i) ⊥ (λ line. row ≡ spelling line)) place here,
      record {
        text = All-take IsUtf8 k rs spell.text;
        valid = All-take IsLine index lines spell.valid;
        spelled = before ∙ ap (λ i. map spelling (take i lines)) place;
      },
    )

-- a row before which fewer rows say something stands among the first
no_later : (bytes : List ℕ) (count number : ℕ) → count_by says_something (take (number - 1) (rows bytes)) < count_by says_something (take count (rows bytes)) → number ≤ count
no_later bytes count number fewer = grind (arith, more)
  where
    more : count ≤ number - 1 → count_by says_something (take count (rows bytes)) ≤ count_by says_something (take (number - 1) (rows bytes))
    more le =
        subst (λ front. count_by says_something front ≤ count_by says_something (take (number - 1) (rows bytes))) (take-take count (number - 1) (rows bytes) le)
        (sum_by-take-le (λ row. cond (says_something row) 1 0) (take (number - 1) (rows bytes)) count)

pub lines_stand_in_rows : LinesStandInRows
lines_stand_in_rows bytes count lines index number spell within row =
    let rs = rows bytes in
    let spoken : length lines ≡ count_by says_something (take count rs) =
    sym (length-map lines spelling) ∙ ap length (sym spell.spelled) ∙ length-filter says_something (take count rs) in
    let early : number ≤ count = no_later bytes count number (subst (λ n. count_by says_something (take (number - 1) rs) < n) spoken (subst (λ n. n < length lines) (sym row.before) within)) in
    let place : number - 1 < count = omega (arith, row.positive) in
    let same : get_or (take count rs) (number - 1) [] ≡ get_or rs (number - 1) [] = get_or-take count rs (number - 1) [] place in
    let front : take (number - 1) (take count rs) ≡ take (number - 1) rs = take-take (number - 1) count rs (omega arith) in
    let (here, before) = cut_lines (take count rs) lines (number - 1) index spell (omega (arith, row.positive, row.within, length-take count rs)) (ap says_something same ∙ row.says) (ap (count_by says_something) front ∙ row.before) in (
      early,
      record {
        spelled = subst (λ found. MatchOption (slice_get lines index) ⊥ (λ line. found ≡ spelling line)) same here;
        before = subst (λ found. SpellLines found (take index lines)) front before;
      },
    )
