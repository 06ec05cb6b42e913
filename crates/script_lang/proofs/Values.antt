-- Each value is read from its own word, and from no other.
use Rattle.std.proofs.Common.{◌≡◌, ℕ, Bool, true, false, cond, ◌&&◌, eqb, List, [], ◌∷◌, Option, Some, None, refl, sym, ap, ◌∙◌, arith, codes, bytes_eq}
use Rattle.std.specs.List.{AllByRecursion, join_with_byte, list_all, slice_split}
use Rattle.std.proofs.lemmas.Bool.Decides.{nat_tests}
use Rattle.std.proofs.lemmas.List.Elements.{All-from_get_or}
use Rattle.std.proofs.lemmas.List.Recursion.{and_at}
use Rattle.std.proofs.lemmas.List.Splits.{join_with_byte-slice_split, slice_split_at, slice_split_none}
use Rattle.std.proofs.lemmas.Option.{cond_some}
use Rattle.std.proofs.lemmas.Slice.Eq.{bytes_eq-Decides}
use Rattle.std.specs.Prelude.{All}
use Rattle.frs_base.specs.declared.kind.MemberKind.{MemberKind}
use Rattle.frs_base.specs.declared.kind.MemberKind.TheVariants.{Primary, Plain}
use Rattle.script_lang.specs.declared.words.Keyword.{Keyword}
use Rattle.script_lang.specs.declared.words.Keyword.TheVariants as keyword
use Rattle.script_lang.specs.Grammar.{is_component, is_member_name, is_path, is_path_byte, kind_word, path_word}
use Rattle.script_lang.specs.Reading.{keyword_in, kind_in, name_in, path_in}

same : (a b : List ℕ) → bytes_eq a b ≡ true → a ≡ b
same a b e = (bytes_eq-Decides a b).0 e

-- both of two tests pass
pub halves : (a b : Bool) → (a && b) ≡ true → (a ≡ true) × (b ≡ true)
halves true b e = (refl, e)
halves false b e = absurd (cc)

-- ---- keywords

-- how a keyword is spelled
abbrev pub keyword_word : Keyword → List ℕ
keyword_word keyword.Member = codes "member"
keyword_word keyword.Put = codes "put"
keyword_word keyword.Fill = codes "fill"
keyword_word keyword.Mkdir = codes "mkdir"
keyword_word keyword.Move = codes "move"
keyword_word keyword.Remove = codes "remove"
keyword_word keyword.Consume = codes "consume"
keyword_word keyword.Change = codes "change"
keyword_word keyword.Pull = codes "pull"
keyword_word keyword.Install = codes "install"
keyword_word keyword.Drain = codes "drain"
keyword_word keyword.Show = codes "show"
keyword_word keyword.Tree = codes "tree"
keyword_word keyword.Sums = codes "sums"
keyword_word keyword.Count = codes "count"

-- one test of a chain: it passes and gives its keyword, or the rest of the chain does
one_test : (word own : List ℕ) (is : Keyword) (others : Option Keyword) (k : Keyword) → own ≡ keyword_word is → (others ≡ Some k → word ≡ keyword_word k)
    → cond (bytes_eq word own) (Some is) others ≡ Some k → word ≡ keyword_word k
one_test word own is others k spelled more e = by (bytes_eq word own) refl e
  where
    by : (b : Bool) → bytes_eq word own ≡ b → cond b (Some is) others ≡ Some k → word ≡ keyword_word k
    by true t e = let found : is ≡ k = cc in same word own t ∙ spelled ∙ ap keyword_word found
    by false t e = more e

pub keyword_takes : (word : List ℕ) (k : Keyword) → keyword_in word ≡ Some k → word ≡ keyword_word k
keyword_takes word k e =
    one_test word (codes "member") keyword.Member _ k refl
    (one_test word (codes "put") keyword.Put _ k refl
    (one_test word (codes "fill") keyword.Fill _ k refl
    (one_test word (codes "mkdir") keyword.Mkdir _ k refl
    (one_test word (codes "move") keyword.Move _ k refl
    (one_test word (codes "remove") keyword.Remove _ k refl
    (one_test word (codes "consume") keyword.Consume _ k refl
    (one_test word (codes "change") keyword.Change _ k refl
    (one_test word (codes "pull") keyword.Pull _ k refl
    (one_test word (codes "install") keyword.Install _ k refl
    (one_test word (codes "drain") keyword.Drain _ k refl
    (one_test word (codes "show") keyword.Show _ k refl
    (one_test word (codes "tree") keyword.Tree _ k refl
    (one_test word (codes "sums") keyword.Sums _ k refl
    (one_test word (codes "count") keyword.Count None k refl (λ none. absurd (cc)))))))))))))))) e

-- ---- names and kinds

pub name_takes : (word name : List ℕ) → name_in word ≡ Some name → (is_member_name name ≡ true) × (word ≡ name)
name_takes word name e =
    let (valid, is) = cond_some (is_member_name word) word name e in
    (ap is_member_name (sym is) ∙ valid, is)

pub name_again : (name : List ℕ) → is_member_name name ≡ true → name_in name ≡ Some name
name_again name valid = ap (λ b. cond b (Some name) None) valid

pub kind_takes : (word : List ℕ) (kind : MemberKind) → kind_in word ≡ Some kind → word ≡ kind_word kind
kind_takes word kind e = by (bytes_eq word (codes "primary")) (bytes_eq word (codes "plain")) refl refl e
  where
    by : (primary plain : Bool) → bytes_eq word (codes "primary") ≡ primary → bytes_eq word (codes "plain") ≡ plain
        → cond primary (Some Primary) (cond plain (Some Plain) None) ≡ Some kind → word ≡ kind_word kind
    by true plain p q e = let is : Primary ≡ kind = cc in same word (codes "primary") p ∙ ap kind_word is
    by false true p q e = let is : Plain ≡ kind = cc in same word (codes "plain") q ∙ ap kind_word is
    by false false p q e = cc

pub kind_again : (kind : MemberKind) → kind_in (kind_word kind) ≡ Some kind
kind_again Primary = refl
kind_again Plain = refl

-- ---- words without a byte, and lists of them joined by it

abbrev pub Lacks : ℕ → List ℕ → Type 0
Lacks s word = All (λ b. eqb b s ≡ false) word

-- a word whose bytes pass a test that the byte doesn't
pub passes : (s : ℕ) (p : ℕ → Bool) → ((b : ℕ) → p b ≡ true → eqb b s ≡ false) → (word : List ℕ) → list_all p word ≡ true → Lacks s word
passes s p apart word each =
    All-from_get_or (λ b. eqb b s ≡ false) word 0 (λ i within. apart _ (and_at (list_all p) p refl (λ _ _. refl) word i 0 within each))

-- what is joined is cut into its parts again
split_join : (s : ℕ) (w : List ℕ) (ws : List (List ℕ)) → eqb s s ≡ true → Lacks s w → AllByRecursion (Lacks s) ws → slice_split (λ b. eqb b s) (join_with_byte s (w ∷ ws)) ≡ w ∷ ws
split_join s w [] own none more = slice_split_none (λ b. eqb b s) w none
split_join s w (v ∷ ws) own none more =
    slice_split_at (λ b. eqb b s) w s (join_with_byte s (v ∷ ws)) none own ∙ ap (λ l. w ∷ l) (split_join s v ws own more.0 more.1)

-- ---- paths

pub path_takes : (word : List ℕ) (path : List (List ℕ)) → path_in word ≡ Some path → (is_path path ≡ true) × (word ≡ path_word path)
path_takes word path e =
    let (valid, is) = cond_some (is_path (slice_split (λ b. eqb b 47) word)) (slice_split (λ b. eqb b 47) word) path e in
    (ap is_path (sym is) ∙ valid, sym (join_with_byte-slice_split 47 word) ∙ ap (join_with_byte 47) is)

-- a component's characters
pub component_bytes : (part : List ℕ) → is_component part ≡ true → list_all is_path_byte part ≡ true
component_bytes part valid = (halves _ _ (halves _ _ valid).1).1

pub components : (path : List (List ℕ)) → is_path path ≡ true → list_all is_component path ≡ true
components path valid = (halves _ _ (halves _ _ valid).1).1

no_slash : (path : List (List ℕ)) → list_all is_component path ≡ true → AllByRecursion (Lacks 47) path
no_slash [] each = tt
no_slash (part ∷ path) each =
    let (here, others) = halves (is_component part) (list_all is_component path) each in
    (passes 47 is_path_byte (λ b e. grind (arith, nat_tests)) part (component_bytes part here), no_slash path others)

pub path_again : (path : List (List ℕ)) → is_path path ≡ true → path_in (path_word path) ≡ Some path
path_again [] valid = absurd (cc)
path_again (part ∷ path) valid =
    let (here, others) = no_slash (part ∷ path) (components (part ∷ path) valid) in
    ap (λ parts. cond (is_path parts) (Some parts) None) (split_join 47 part path refl here others)
    ∙ ap (λ b. cond b (Some (part ∷ path)) None) valid
