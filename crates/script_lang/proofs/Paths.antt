-- Paths, component by component.
use Rattle.std.proofs.Common.{◌≡◌, ◌<◌, ◌≤◌, ◌+◌, ℕ, true, false, cond, eqb, List, [], ◌∷◌, ◌++◌, length, get_or, take, set, Some, None, sym, ap, ◌∙◌, arith}
use Rattle.std.specs.Prelude.{count_by}
use Rattle.std.specs.List.{list_all, slice_split}
use Rattle.std.proofs.lemmas.Bool.Decides.{nat_tests}
use Rattle.std.proofs.lemmas.List.Folds.{list_all_at}
use Rattle.std.proofs.lemmas.List.Sums.{AllPass-from_list_all}
use Rattle.std.proofs.lemmas.List.Splits.{length-slice_split}
use Rattle.frs_base.specs.Names.{IsName, is_barred}
use Rattle.script_lang.specs.Grammar.{is_component, is_path, is_path_byte}
use Rattle.script_lang.specs.Reading.{path_in}

-- a byte of a path stands in a name
path_bytes_stand : (b : ℕ) → is_path_byte b ≡ true → is_barred b ≡ false
path_bytes_stand b is = grind (arith, nat_tests, is)

-- a component is a name
pub component_is_name : (part : List ℕ) → is_component part ≡ true → IsName part
component_is_name part is =
    let all : list_all is_path_byte part ≡ true = grind (arith, nat_tests, is) in
    record {
      some = grind (arith, nat_tests, is);
      within = grind (arith, nat_tests, is);
      clean = λ k d inside. path_bytes_stand (get_or part k d) (AllPass-from_list_all is_path_byte part all k d inside);
    }

-- ---- components

-- components of which one is none, and too many, are no path
pub one_is_none : (parts : List (List ℕ)) (k : ℕ) (d : List ℕ) → k < length parts → is_component (get_or parts k d) ≡ false → is_path parts ≡ false
one_is_none parts k d within fails =
    let some = list_all_at is_component parts k d within fails in
    grind (arith, nat_tests)

pub too_many : (parts : List (List ℕ)) → 64 < length parts → is_path parts ≡ false
too_many parts more = grind (arith, nat_tests)

pub within_form : (parts : List (List ℕ)) → 0 < length parts → length parts ≤ 64 → list_all is_component parts ≡ true → is_path parts ≡ true
within_form parts some few each = grind (arith, nat_tests)

-- ---- the path in a word

abbrev pub parts_of : List ℕ → List (List ℕ)
parts_of word = slice_split (λ b. eqb b 47) word

pub no_path : (word : List ℕ) → is_path (parts_of word) ≡ false → path_in word ≡ None
no_path word fails = ap (λ b. cond b (Some (parts_of word)) None) fails

-- as many components as slashes, and one
pub part_count : (word : List ℕ) (slashes : ℕ) → slashes ≡ count_by (λ b. eqb b 47) word → length (parts_of word) ≡ slashes + 1
part_count word slashes is = length-slice_split (λ b. eqb b 47) word ∙ ap (λ n. n + 1) (sym is)

pub path_is : (word : List ℕ) (names : List (List ℕ)) (slashes : ℕ) → names ≡ parts_of word → slashes ≡ count_by (λ b. eqb b 47) word → slashes < 64 → list_all is_component names ≡ true → path_in word ≡ Some names
path_is word names slashes are count few each =
    let all = part_count word slashes count in
    let valid : is_path (parts_of word) ≡ true = ap is_path (sym are) ∙ within_form names (omega (arith, ap length are, all)) (omega (arith, ap length are, all)) each in
    ap (λ b. cond b (Some (parts_of word)) None) valid ∙ ap Some (sym are)
