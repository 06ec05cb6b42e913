-- A row cut at its first spaces.
use Rattle.std.proofs.Common.{◌≡◌, ◌≢◌, ◌<◌, ◌^◌, ℕ, zero, suc, true, false, cond, not, eqb, List, [], ◌∷◌, ◌++◌, length, get_or, Option, Some, None, Bor, refl, ap, ◌∙◌, arith, lit<, codes}
use Rattle.std.specs.Prelude.{decimal}
use Rattle.std.specs.List.{list_all, onto_first}
use Rattle.std.proofs.lemmas.Bool.Decides.{nat_tests}
use Rattle.std.proofs.lemmas.Fmt.{digits_decimal}
use Rattle.std.proofs.lemmas.List.Elements.{All-append, All-cons, All-from_get_or, All-head, All-tail}
use Rattle.std.proofs.lemmas.Option.{MatchOption-at_none, MatchOption-at_some}
use Rattle.std.proofs.lemmas.Str.Parse.{digit_at}
use Rattle.std.proofs.lemmas.Str.Pattern.{IsSplitOnceResult, split_parts}
use Rattle.frs_base.specs.declared.kind.MemberKind.{MemberKind}
use Rattle.frs_base.specs.declared.kind.MemberKind.TheVariants.{Primary, Plain}
use Rattle.script_lang.specs.Grammar.{is_component, is_member_name, is_path, is_path_byte, is_small_letter, kind_word, path_word}
use Rattle.script_lang.proofs.Numbers.{own}
use Rattle.script_lang.proofs.Values.{Lacks, component_bytes, components, halves, passes}

-- the byte is no space
abbrev IsOther : ℕ → Type 0
IsOther b = eqb b 32 ≡ false

abbrev pub HasNoSpace : List ℕ → Type 0
HasNoSpace word = Lacks 32 word

-- the words of a row that is cut at its first n spaces
abbrev pub cut : ℕ → List ℕ → List (List ℕ)
cut zero row = row ∷ []
cut (suc n) [] = [] ∷ []
cut (suc n) (c ∷ cs) = cond (eqb c 32) ([] ∷ cut n cs) (onto_first c (cut (suc n) cs))

pub cut_at : (n : ℕ) (a b : List ℕ) → HasNoSpace a → cut (suc n) (a ++ 32 ∷ b) ≡ a ∷ cut n b
cut_at n [] b none = refl
cut_at n (c ∷ a) b none =
    ap (λ t. cond t ([] ∷ cut n (a ++ 32 ∷ b)) (onto_first c (cut (suc n) (a ++ 32 ∷ b)))) {y = false} (All-head IsOther c a none)
    ∙ ap (onto_first c) (cut_at n a b (All-tail IsOther c a none))

pub cut_none : (n : ℕ) (a : List ℕ) → HasNoSpace a → cut n a ≡ a ∷ []
cut_none zero a none = refl
cut_none (suc n) [] none = refl
cut_none (suc n) (c ∷ a) none =
    ap (λ t. cond t ([] ∷ cut n a) (onto_first c (cut (suc n) a))) {y = false} (All-head IsOther c a none) ∙ ap (onto_first c) (cut_none (suc n) a (All-tail IsOther c a none))

-- ---- what `split_once` gives

not_space : (word : List ℕ) → ((i : ℕ) → i < length word → get_or word i 0 ≢ 32) → HasNoSpace word
not_space word none = All-from_get_or (λ b. eqb b 32 ≡ false) word 0 (λ i within. let apart = none i within in grind (arith, nat_tests))

pub split_some : (row : List ℕ) (r : Option (Bor (List ℕ) × Bor (List ℕ))) (a b : Bor (List ℕ)) → IsSplitOnceResult 32 row r → r ≡ Some (a, b) → (row ≡ a.now ++ 32 ∷ b.now) × HasNoSpace a.now
split_some row r a b splits is =
    let (whole, none) = MatchOption-at_some _ _ (a, b) is (split_parts 32 row r splits (lit< tt)) in
    (whole, not_space a.now none)

pub split_none : (row : List ℕ) (r : Option (Bor (List ℕ) × Bor (List ℕ))) → IsSplitOnceResult 32 row r → r ≡ None → HasNoSpace row
split_none row r splits is = not_space row (MatchOption-at_none _ _ is (split_parts 32 row r splits (lit< tt)))

-- ---- words have no space

pub literal : (word : List ℕ) → list_all (λ b. not (eqb b 32)) word ≡ true → HasNoSpace word
literal word each = passes 32 (λ b. not (eqb b 32)) (λ b e. grind (arith, nat_tests)) word each

pub name_whole : (name : List ℕ) → is_member_name name ≡ true → HasNoSpace name
name_whole name valid = passes 32 is_small_letter (λ b e. grind (arith, nat_tests)) name (halves _ _ (halves _ _ valid).1).1

pub kind_whole : (kind : MemberKind) → HasNoSpace (kind_word kind)
kind_whole Primary = literal (codes "primary") refl
kind_whole Plain = literal (codes "plain") refl

component_whole : (part : List ℕ) → is_component part ≡ true → HasNoSpace part
component_whole part valid = passes 32 is_path_byte (λ b e. grind (arith, nat_tests)) part (component_bytes part valid)

components_whole : (path : List (List ℕ)) → list_all is_component path ≡ true → HasNoSpace (path_word path)
components_whole [] each = literal [] refl
components_whole (part ∷ []) each = component_whole part (halves _ _ each).0
components_whole (part ∷ next ∷ path) each =
    let (here, others) = halves (is_component part) (list_all is_component (next ∷ path)) each in
    All-append IsOther part (47 ∷ path_word (next ∷ path)) (component_whole part here) (All-cons IsOther 47 (path_word (next ∷ path)) refl (components_whole (next ∷ path) others))

pub path_whole : (path : List (List ℕ)) → is_path path ≡ true → HasNoSpace (path_word path)
path_whole path valid = components_whole path (components path valid)

pub number_whole : (n : ℕ) → n < 2 ^ 64 → HasNoSpace (decimal n)
number_whole n small =
    All-from_get_or (λ b. eqb b 32 ≡ false) (decimal n) 0 (λ i within.
    let digit = digit_at (decimal n) i (digits_decimal own n small) within in
    grind (arith, nat_tests))
