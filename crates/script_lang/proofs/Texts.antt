-- What a line spells is text within one row.
use Rattle.std.proofs.Common.{◌≡◌, ◌≢◌, ◌<◌, ◌≤◌, ◌-◌, ◌^◌, ℕ, zero, suc, Bool, true, not, ◌&&◌, eqb, ltb, List, [], ◌∷◌, ◌++◌, length, get_or, take, drop, refl, ap, ◌∙◌, arith, lit<, codes, append-nil}
use Rattle.std.specs.Prelude.{IsUtf8, decimal}
use Rattle.std.specs.List.{AllByRecursion, flat_map, join_with_byte, list_all}
use Rattle.std.proofs.lemmas.Bool.Decides.{nat_tests}
use Rattle.std.proofs.lemmas.Fmt.{IsAscii-decimal, digits_decimal}
use Rattle.std.proofs.lemmas.List.{take_all}
use Rattle.std.proofs.lemmas.List.Elements.{All-append, All-from_get_or}
use Rattle.std.proofs.lemmas.List.Recursion.{and_at}
use Rattle.std.proofs.lemmas.Str.{IsUtf8-append, IsUtf8-from_ascii}
use Rattle.std.proofs.lemmas.Str.Parse.{digit_at}
use Rattle.frs_base.specs.declared.kind.MemberKind.{MemberKind}
use Rattle.frs_base.specs.declared.kind.MemberKind.TheVariants.{Primary, Plain}
use Rattle.script_lang.specs.declared.line.Line.{Line}
use Rattle.script_lang.specs.declared.line.Line.TheVariants.{Member, Put, Fill, Mkdir, Move, Remove, Consume, Change, Pull, Install, Drain, Show, Tree, Sums, Count}
use Rattle.script_lang.specs.Grammar.{IsLine, IsText, is_component, is_member_name, is_path, is_path_byte, is_small_letter, kind_word, path_word, spelling, words}
use Rattle.script_lang.proofs.Numbers.{own}
use Rattle.script_lang.proofs.Values.{component_bytes, components, halves}

-- ---- text

-- a word whose bytes pass a test that only ASCII does, and no line feed
small_at : (p : ℕ → Bool) → ((b : ℕ) → p b ≡ true → (b < 128) × (b ≢ 10)) → (word : List ℕ) → list_all p word ≡ true → (i : ℕ) → get_or word i 0 < 128
small_at p plain [] each i = lit< tt
small_at p plain (c ∷ word) each zero = (plain c (halves _ _ each).0).0
small_at p plain (c ∷ word) each (suc i) = small_at p plain word (halves _ _ each).1 i

plain_text : (p : ℕ → Bool) → ((b : ℕ) → p b ≡ true → (b < 128) × (b ≢ 10)) → (word : List ℕ) → list_all p word ≡ true → IsText word
plain_text p plain word each = record {
  utf8 = IsUtf8-from_ascii word (small_at p plain word each);
  one_row = All-from_get_or (λ b. b ≢ 10) word 0 (λ i within. (plain _ (and_at (list_all p) p refl (λ _ _. refl) word i 0 within each)).1);
}

literal_text : (word : List ℕ) → list_all (λ b. ltb b 128 && not (eqb b 10)) word ≡ true → IsText word
literal_text word each = plain_text (λ b. ltb b 128 && not (eqb b 10)) (λ b e. (grind (arith, nat_tests), λ is. grind (arith, nat_tests))) word each

name_is_text : (name : List ℕ) → is_member_name name ≡ true → IsText name
name_is_text name valid = plain_text is_small_letter (λ b e. (grind (arith, nat_tests), λ is. grind (arith, nat_tests))) name (halves _ _ (halves _ _ valid).1).1

pub name_utf8 : (name : List ℕ) → is_member_name name ≡ true → IsUtf8 name
name_utf8 name valid = (name_is_text name valid).utf8

kind_is_text : (kind : MemberKind) → IsText (kind_word kind)
kind_is_text Primary = literal_text (codes "primary") refl
kind_is_text Plain = literal_text (codes "plain") refl

number_is_text : (n : ℕ) → n < 2 ^ 64 → IsText (decimal n)
number_is_text n small = record {
  utf8 = IsUtf8-from_ascii (decimal n) (IsAscii-decimal n small);
  one_row = All-from_get_or (λ b. b ≢ 10) (decimal n) 0 (λ i within is.
      let digit = digit_at (decimal n) i (digits_decimal own n small) within in
      absurd (omega arith));
}

-- texts joined by a byte that is one
join_is_text : (s : ℕ) → IsText (s ∷ []) → (ws : List (List ℕ)) → AllByRecursion IsText ws → IsText (join_with_byte s ws)
join_is_text s part [] each = literal_text [] refl
join_is_text s part (w ∷ []) each = each.0
join_is_text s part (w ∷ v ∷ ws) each =
    let rest = join_is_text s part (v ∷ ws) each.1 in
    record {
      utf8 = IsUtf8-append w (s ∷ join_with_byte s (v ∷ ws)) each.0.utf8 (IsUtf8-append (s ∷ []) (join_with_byte s (v ∷ ws)) part.utf8 rest.utf8);
      one_row = All-append (λ b. b ≢ 10) w (s ∷ join_with_byte s (v ∷ ws)) each.0.one_row (All-append (λ b. b ≢ 10) (s ∷ []) (join_with_byte s (v ∷ ws)) part.one_row rest.one_row);
    }

components_are_text : (path : List (List ℕ)) → list_all is_component path ≡ true → AllByRecursion IsText path
components_are_text [] each = tt
components_are_text (part ∷ path) each =
    let (here, others) = halves (is_component part) (list_all is_component path) each in
    (plain_text is_path_byte (λ b e. (grind (arith, nat_tests), λ is. grind (arith, nat_tests))) part (component_bytes part here), components_are_text path others)

path_is_text : (path : List (List ℕ)) → is_path path ≡ true → IsText (path_word path)
path_is_text path valid = join_is_text 47 (literal_text (47 ∷ []) refl) path (components_are_text path (components path valid))

words_are_text : (line : Line) → IsLine line → AllByRecursion IsText (words line)
words_are_text (Member name kind) valid = (literal_text (codes "member") refl, (name_is_text name valid, (kind_is_text kind, tt)))
words_are_text (Put name path text) (valid, form, is_text) = (literal_text (codes "put") refl, (name_is_text name valid, (path_is_text path form, (is_text, tt))))
words_are_text (Fill name path bytes) (valid, form, below) = (literal_text (codes "fill") refl, (name_is_text name valid, (path_is_text path form, (number_is_text bytes (omega arith), tt))))
words_are_text (Mkdir name path) (valid, form) = (literal_text (codes "mkdir") refl, (name_is_text name valid, (path_is_text path form, tt)))
words_are_text (Move name from to) (valid, form, target) = (literal_text (codes "move") refl, (name_is_text name valid, (path_is_text from form, (path_is_text to target, tt))))
words_are_text (Remove name path) (valid, form) = (literal_text (codes "remove") refl, (name_is_text name valid, (path_is_text path form, tt)))
words_are_text (Consume name moment) (valid, below) = (literal_text (codes "consume") refl, (name_is_text name valid, (number_is_text moment (omega arith), tt)))
words_are_text (Change name path moment) (valid, form, below) = (literal_text (codes "change") refl, (name_is_text name valid, (path_is_text path form, (number_is_text moment (omega arith), tt))))
words_are_text (Pull name other) (valid, form) = (literal_text (codes "pull") refl, (name_is_text name valid, (name_is_text other form, tt)))
words_are_text (Install name) valid = (literal_text (codes "install") refl, (name_is_text name valid, tt))
words_are_text (Drain name) valid = (literal_text (codes "drain") refl, (name_is_text name valid, tt))
words_are_text (Show name) valid = (literal_text (codes "show") refl, (name_is_text name valid, tt))
words_are_text (Tree name) valid = (literal_text (codes "tree") refl, (name_is_text name valid, tt))
words_are_text (Sums name) valid = (literal_text (codes "sums") refl, (name_is_text name valid, tt))
words_are_text (Count name) valid = (literal_text (codes "count") refl, (name_is_text name valid, tt))

-- a spelling is text within one row
pub spelling_is_text : (line : Line) → IsLine line → IsText (spelling line)
spelling_is_text line valid = join_is_text 32 (literal_text (32 ∷ []) refl) (words line) (words_are_text line valid)

-- ---- a path, component by component

joined : (first : List ℕ) (others : List (List ℕ)) → first ++ flat_map (λ name. 47 ∷ name) others ≡ path_word (first ∷ others)
joined first [] = append-nil first
joined first (next ∷ others) = ap (λ rest. first ++ 47 ∷ rest) (joined next others)

-- the first component, and the others each behind a `/`
pub path_joined : (path : List (List ℕ)) (first : List ℕ) → 1 ≤ length path → first ≡ get_or path 0 first
    → first ++ flat_map (λ name. 47 ∷ name) (take (length path - 1) (drop 1 path)) ≡ path_word path
path_joined [] first some is = absurd (omega arith)
path_joined (x ∷ others) first some is =
    let all : take (length (x ∷ others) - 1) others ≡ others = take_all _ _ (omega arith) in
    ap (λ names. first ++ flat_map (λ name. 47 ∷ name) names) all ∙ ap (λ name. name ++ flat_map (λ other. 47 ∷ other) others) is ∙ joined x others
