-- Each line is read from its own words, and from no others.
use Rattle.std.proofs.Common.{◌≡◌, ◌≢◌, ◌<◌, ◌+◌, ℕ, true, List, [], ◌∷◌, ◌++◌, length, get_or, drop, Option, Some, None, Result, Ok, Err, refl, sym, ap, ◌∙◌, subst, arith, lit<, codes, length-append}
use Rattle.std.specs.Prelude.{IsUtf8, decimal}
use Rattle.std.specs.List.{join_with_byte}
use Rattle.std.proofs.Math.Seq.{drop-append-add, get_or-append_seam}
use Rattle.std.proofs.lemmas.List.Elements.{All-drop}
use Rattle.std.proofs.lemmas.Str.{IsCharBoundary-after_ascii, IsUtf8-drop}
use Rattle.script_lang.specs.declared.errors.RowError.{RowError}
use Rattle.script_lang.specs.declared.errors.RowError.TheVariants.{Bad, Memory}
use Rattle.script_lang.specs.declared.line.Line.{Line}
use Rattle.script_lang.specs.declared.line.Line.TheVariants.{Member, Put, Fill, Mkdir, Move, Remove, Consume, Change, Pull, Install, Drain, Show, Tree, Sums, Count}
use Rattle.script_lang.specs.declared.words.Keyword.{Keyword}
use Rattle.script_lang.specs.declared.words.Keyword.TheVariants as keyword
use Rattle.script_lang.specs.Grammar.{HasNoLineFeed, IsLine, IsText, is_member_name, is_path, kind_word, length_limit, moment_limit, path_word, spelling, words}
use Rattle.script_lang.specs.Reading.{◌>>=◌, Reads, Spells, four_words, keyword_in, kind_in, line_of_four, line_of_three, line_of_two, name_in, number_in, path_in, three_words, two_words}
use Rattle.script_lang.proofs.Numbers.{number_again, number_takes}
use Rattle.script_lang.proofs.Spaces.{HasNoSpace, cut, cut_at, cut_none, kind_whole, literal, name_whole, number_whole, path_whole}
use Rattle.script_lang.proofs.Values.{keyword_takes, keyword_word, kind_again, kind_takes, name_again, name_takes, path_again, path_takes}

-- the line of a row's words, once its first is a keyword
abbrev pub line_behind : Keyword → List (List ℕ) → Option Line
line_behind word [] = None
line_behind word (a ∷ []) = line_of_two word a
line_behind word (a ∷ b ∷ []) = line_of_three word a b
line_behind word (a ∷ b ∷ c ∷ []) = line_of_four word a b c
line_behind word (a ∷ b ∷ c ∷ d ∷ more) = None

-- the line of a row's words
abbrev pub line_of : List (List ℕ) → Option Line
line_of [] = None
line_of (word ∷ others) = keyword_in word >>= λ k. line_behind k others

-- ---- words that give a line are its words

abbrev pub Takes : Line → List (List ℕ) → Type 0
Takes line ws = IsLine line × (ws ≡ words line)

-- where a value comes of two steps, each gave one
bound : {A B : Type 0} (o : Option A) (f : A → Option B) (y : B) → (o >>= f) ≡ Some y → (x : A) × (o ≡ Some x) × (f x ≡ Some y)
bound (Some x) f y e = (x, refl, e)
bound None f y e = absurd (cc)

taken : (line made : Line) (ws : List (List ℕ)) → Some made ≡ Some line → IsLine made → ws ≡ words made → Takes line ws
taken line made ws e valid is = let same : made ≡ line = cc in subst (λ l. Takes l ws) same (valid, is)

two_by : (k : Keyword) (a name : List ℕ) (line : Line) → is_member_name name ≡ true → a ≡ name → two_words k name ≡ Some line → Takes line (keyword_word k ∷ a ∷ [])
two_by keyword.Install a name line valid is e = taken line (Install name) _ e valid (λ i. codes "install" ∷ is i ∷ [])
two_by keyword.Drain a name line valid is e = taken line (Drain name) _ e valid (λ i. codes "drain" ∷ is i ∷ [])
two_by keyword.Show a name line valid is e = taken line (Show name) _ e valid (λ i. codes "show" ∷ is i ∷ [])
two_by keyword.Tree a name line valid is e = taken line (Tree name) _ e valid (λ i. codes "tree" ∷ is i ∷ [])
two_by keyword.Sums a name line valid is e = taken line (Sums name) _ e valid (λ i. codes "sums" ∷ is i ∷ [])
two_by keyword.Count a name line valid is e = taken line (Count name) _ e valid (λ i. codes "count" ∷ is i ∷ [])
two_by _ a name line valid is e = absurd (cc)

three_by : (k : Keyword) (a b name : List ℕ) (line : Line) → is_member_name name ≡ true → a ≡ name → three_words k b name ≡ Some line → Takes line (keyword_word k ∷ a ∷ b ∷ [])
three_by keyword.Member a b name line valid is e =
    let (kind, read, made) = bound (kind_in b) (λ kind. Some (Member name kind)) line e in
    let third = kind_takes b kind read in
    taken line (Member name kind) _ made valid (λ i. codes "member" ∷ is i ∷ third i ∷ [])
three_by keyword.Mkdir a b name line valid is e =
    let (path, read, made) = bound (path_in b) (λ path. Some (Mkdir name path)) line e in
    let (form, third) = path_takes b path read in
    taken line (Mkdir name path) _ made (valid, form) (λ i. codes "mkdir" ∷ is i ∷ third i ∷ [])
three_by keyword.Remove a b name line valid is e =
    let (path, read, made) = bound (path_in b) (λ path. Some (Remove name path)) line e in
    let (form, third) = path_takes b path read in
    taken line (Remove name path) _ made (valid, form) (λ i. codes "remove" ∷ is i ∷ third i ∷ [])
three_by keyword.Consume a b name line valid is e =
    let (moment, read, made) = bound (number_in moment_limit b) (λ moment. Some (Consume name moment)) line e in
    let (below, third) = number_takes moment_limit b moment read in
    taken line (Consume name moment) _ made (valid, below) (λ i. codes "consume" ∷ is i ∷ third i ∷ [])
three_by keyword.Pull a b name line valid is e =
    let (other, read, made) = bound (name_in b) (λ other. Some (Pull name other)) line e in
    let (form, third) = name_takes b other read in
    taken line (Pull name other) _ made (valid, form) (λ i. codes "pull" ∷ is i ∷ third i ∷ [])
three_by _ a b name line valid is e = absurd (cc)

four_by : (k : Keyword) (a b c name : List ℕ) (path : List (List ℕ)) (line : Line) → IsText c → is_member_name name ≡ true → a ≡ name → is_path path ≡ true → b ≡ path_word path
    → four_words k c name path ≡ Some line → Takes line (keyword_word k ∷ a ∷ b ∷ c ∷ [])
four_by keyword.Put a b c name path line text valid is form third e =
    taken line (Put name path c) _ e (valid, form, text) (λ i. codes "put" ∷ is i ∷ third i ∷ c ∷ [])
four_by keyword.Fill a b c name path line text valid is form third e =
    let (bytes, read, made) = bound (number_in length_limit c) (λ bytes. Some (Fill name path bytes)) line e in
    let (below, fourth) = number_takes length_limit c bytes read in
    taken line (Fill name path bytes) _ made (valid, form, below) (λ i. codes "fill" ∷ is i ∷ third i ∷ fourth i ∷ [])
four_by keyword.Move a b c name path line text valid is form third e =
    let (to, read, made) = bound (path_in c) (λ to. Some (Move name path to)) line e in
    let (target, fourth) = path_takes c to read in
    taken line (Move name path to) _ made (valid, form, target) (λ i. codes "move" ∷ is i ∷ third i ∷ fourth i ∷ [])
four_by keyword.Change a b c name path line text valid is form third e =
    let (moment, read, made) = bound (number_in moment_limit c) (λ moment. Some (Change name path moment)) line e in
    let (below, fourth) = number_takes moment_limit c moment read in
    taken line (Change name path moment) _ made (valid, form, below) (λ i. codes "change" ∷ is i ∷ third i ∷ fourth i ∷ [])
four_by _ a b c name path line text valid is form third e = absurd (cc)

-- the last of four words, which may be a text, is one
abbrev pub EndsInText : List (List ℕ) → Type 0
EndsInText (a ∷ b ∷ c ∷ d ∷ []) = IsText d
EndsInText _ = Unit {0}

behind_takes : (k : Keyword) (ws : List (List ℕ)) (line : Line) → EndsInText (keyword_word k ∷ ws) → line_behind k ws ≡ Some line → Takes line (keyword_word k ∷ ws)
behind_takes k [] line text e = absurd (cc)
behind_takes k (a ∷ []) line text e =
    let (name, named, made) = bound (name_in a) (two_words k) line e in
    let (valid, is) = name_takes a name named in
    two_by k a name line valid is made
behind_takes k (a ∷ b ∷ []) line text e =
    let (name, named, made) = bound (name_in a) (three_words k b) line e in
    let (valid, is) = name_takes a name named in
    three_by k a b name line valid is made
behind_takes k (a ∷ b ∷ c ∷ []) line text e =
    let (name, named, more) = bound (name_in a) (λ own. path_in b >>= four_words k c own) line e in
    let (path, read, made) = bound (path_in b) (four_words k c name) line more in
    let (valid, is) = name_takes a name named in
    let (form, third) = path_takes b path read in
    four_by k a b c name path line text valid is form third made
behind_takes k (a ∷ b ∷ c ∷ d ∷ more) line text e = absurd (cc)

takes : (ws : List (List ℕ)) (line : Line) → EndsInText ws → line_of ws ≡ Some line → Takes line ws
takes [] line text e = absurd (cc)
takes (word ∷ ws) line text e =
    let (k, read, made) = bound (keyword_in word) (λ k. line_behind k ws) line e in
    let spelled = keyword_takes word k read in
    let (valid, is) = behind_takes k ws line (subst (λ w. EndsInText (w ∷ ws)) spelled text) made in
    (valid, ap (λ w. w ∷ ws) spelled ∙ is)

-- ---- a line's words give the line

again : (line : Line) → IsLine line → line_of (words line) ≡ Some line
again (Member name kind) valid =
    ap (λ o. o >>= three_words keyword.Member (kind_word kind)) (name_again name valid) ∙ ap (λ o. o >>= λ k. Some (Member name k)) (kind_again kind)
again (Put name path text) (valid, form, is_text) =
    ap (λ o. o >>= λ own. path_in (path_word path) >>= four_words keyword.Put text own) (name_again name valid)
    ∙ ap (λ o. o >>= four_words keyword.Put text name) (path_again path form)
again (Fill name path bytes) (valid, form, below) =
    ap (λ o. o >>= λ own. path_in (path_word path) >>= four_words keyword.Fill (decimal bytes) own) (name_again name valid)
    ∙ ap (λ o. o >>= four_words keyword.Fill (decimal bytes) name) (path_again path form)
    ∙ ap (λ o. o >>= λ n. Some (Fill name path n)) (number_again length_limit bytes below (omega arith))
again (Mkdir name path) (valid, form) =
    ap (λ o. o >>= three_words keyword.Mkdir (path_word path)) (name_again name valid) ∙ ap (λ o. o >>= λ p. Some (Mkdir name p)) (path_again path form)
again (Move name from to) (valid, form, target) =
    ap (λ o. o >>= λ own. path_in (path_word from) >>= four_words keyword.Move (path_word to) own) (name_again name valid)
    ∙ ap (λ o. o >>= four_words keyword.Move (path_word to) name) (path_again from form)
    ∙ ap (λ o. o >>= λ p. Some (Move name from p)) (path_again to target)
again (Remove name path) (valid, form) =
    ap (λ o. o >>= three_words keyword.Remove (path_word path)) (name_again name valid) ∙ ap (λ o. o >>= λ p. Some (Remove name p)) (path_again path form)
again (Consume name moment) (valid, below) =
    ap (λ o. o >>= three_words keyword.Consume (decimal moment)) (name_again name valid)
    ∙ ap (λ o. o >>= λ n. Some (Consume name n)) (number_again moment_limit moment below (omega arith))
again (Change name path moment) (valid, form, below) =
    ap (λ o. o >>= λ own. path_in (path_word path) >>= four_words keyword.Change (decimal moment) own) (name_again name valid)
    ∙ ap (λ o. o >>= four_words keyword.Change (decimal moment) name) (path_again path form)
    ∙ ap (λ o. o >>= λ n. Some (Change name path n)) (number_again moment_limit moment below (omega arith))
again (Pull name other) (valid, form) =
    ap (λ o. o >>= three_words keyword.Pull other) (name_again name valid) ∙ ap (λ o. o >>= λ n. Some (Pull name n)) (name_again other form)
again (Install name) valid = ap (λ o. o >>= two_words keyword.Install) (name_again name valid)
again (Drain name) valid = ap (λ o. o >>= two_words keyword.Drain) (name_again name valid)
again (Show name) valid = ap (λ o. o >>= two_words keyword.Show) (name_again name valid)
again (Tree name) valid = ap (λ o. o >>= two_words keyword.Tree) (name_again name valid)
again (Sums name) valid = ap (λ o. o >>= two_words keyword.Sums) (name_again name valid)
again (Count name) valid = ap (λ o. o >>= two_words keyword.Count) (name_again name valid)

-- ---- a spelling is cut into the line's words

cut_two : (a b : List ℕ) → HasNoSpace a → HasNoSpace b → cut 3 (a ++ 32 ∷ b) ≡ a ∷ b ∷ []
cut_two a b p q = cut_at 2 a b p ∙ ap (λ l. a ∷ l) (cut_none 2 b q)

cut_three : (a b c : List ℕ) → HasNoSpace a → HasNoSpace b → HasNoSpace c → cut 3 (a ++ 32 ∷ (b ++ 32 ∷ c)) ≡ a ∷ b ∷ c ∷ []
cut_three a b c p q r = cut_at 2 a (b ++ 32 ∷ c) p ∙ ap (λ l. a ∷ l) (cut_at 1 b c q) ∙ ap (λ l. a ∷ b ∷ l) (cut_none 1 c r)

cut_four : (a b c d : List ℕ) → HasNoSpace a → HasNoSpace b → HasNoSpace c → cut 3 (a ++ 32 ∷ (b ++ 32 ∷ (c ++ 32 ∷ d))) ≡ a ∷ b ∷ c ∷ d ∷ []
cut_four a b c d p q r = cut_at 2 a (b ++ 32 ∷ (c ++ 32 ∷ d)) p ∙ ap (λ l. a ∷ l) (cut_at 1 b (c ++ 32 ∷ d) q) ∙ ap (λ l. a ∷ b ∷ l) (cut_at 0 c d r)

parted : (line : Line) → IsLine line → cut 3 (spelling line) ≡ words line
parted (Member name kind) valid = cut_three (codes "member") name (kind_word kind) (literal (codes "member") refl) (name_whole name valid) (kind_whole kind)
parted (Put name path text) (valid, form, is_text) = cut_four (codes "put") name (path_word path) text (literal (codes "put") refl) (name_whole name valid) (path_whole path form)
parted (Fill name path bytes) (valid, form, below) = cut_four (codes "fill") name (path_word path) (decimal bytes) (literal (codes "fill") refl) (name_whole name valid) (path_whole path form)
parted (Mkdir name path) (valid, form) = cut_three (codes "mkdir") name (path_word path) (literal (codes "mkdir") refl) (name_whole name valid) (path_whole path form)
parted (Move name from to) (valid, form, target) = cut_four (codes "move") name (path_word from) (path_word to) (literal (codes "move") refl) (name_whole name valid) (path_whole from form)
parted (Remove name path) (valid, form) = cut_three (codes "remove") name (path_word path) (literal (codes "remove") refl) (name_whole name valid) (path_whole path form)
parted (Consume name moment) (valid, below) = cut_three (codes "consume") name (decimal moment) (literal (codes "consume") refl) (name_whole name valid) (number_whole moment (omega arith))
parted (Change name path moment) (valid, form, below) = cut_four (codes "change") name (path_word path) (decimal moment) (literal (codes "change") refl) (name_whole name valid) (path_whole path form)
parted (Pull name other) (valid, form) = cut_three (codes "pull") name other (literal (codes "pull") refl) (name_whole name valid) (name_whole other form)
parted (Install name) valid = cut_two (codes "install") name (literal (codes "install") refl) (name_whole name valid)
parted (Drain name) valid = cut_two (codes "drain") name (literal (codes "drain") refl) (name_whole name valid)
parted (Show name) valid = cut_two (codes "show") name (literal (codes "show") refl) (name_whole name valid)
parted (Tree name) valid = cut_two (codes "tree") name (literal (codes "tree") refl) (name_whole name valid)
parted (Sums name) valid = cut_two (codes "sums") name (literal (codes "sums") refl) (name_whole name valid)
parted (Count name) valid = cut_two (codes "count") name (literal (codes "count") refl) (name_whole name valid)

-- a spelling is read as its line
pub read_again : (line : Line) → IsLine line → line_of (cut 3 (spelling line)) ≡ Some line
read_again line valid = ap line_of (parted line valid) ∙ again line valid

-- ---- rows

-- what reads the words of a row tells what the row spells
pub row_read : (row : List ℕ) (ws : List (List ℕ)) (r : Result Line RowError) → row ≡ join_with_byte 32 ws → cut 3 row ≡ ws → EndsInText ws → Reads r (line_of ws) → Spells r row
row_read row ws (Ok line) whole parts text read = let (valid, is) = takes ws line text read in (valid, whole ∙ ap (join_with_byte 32) is)
row_read row ws (Err Memory) whole parts text read = tt
row_read row ws (Err Bad) whole parts text read = λ line valid is.
    let some : line_of ws ≡ Some line = ap line_of (sym parts ∙ ap (cut 3) is) ∙ read_again line valid in
    cc

-- what stands behind a space in a text is a text
text_behind : (row a b : List ℕ) → row ≡ a ++ 32 ∷ b → IsText row → IsText b
text_behind row a b whole text = record {
  utf8 = subst IsUtf8 behind (IsUtf8-drop row (length a + 1) text.utf8 (IsCharBoundary-after_ascii row (length a) text.utf8 within ascii));
  one_row = subst HasNoLineFeed behind (All-drop (λ c. c ≢ 10) (length a + 1) row text.one_row);
}
  where
    behind : drop (length a + 1) row ≡ b
    behind = ap (drop (length a + 1)) whole ∙ drop-append-add a (32 ∷ b) 1

    within : length a < length row
    within = omega (arith, ap length whole, length-append a (32 ∷ b))

    ascii : get_or row (length a) 0 < 128
    ascii = subst (λ c. c < 128) (sym (ap (λ r. get_or r (length a) 0) whole ∙ get_or-append_seam a 32 b 0)) (lit< tt)

-- a row of two words
pub two_spelled : (row word name : List ℕ) (k : Keyword) (r : Result Line RowError) → row ≡ word ++ 32 ∷ name → HasNoSpace word → HasNoSpace name → keyword_in word ≡ Some k
    → Reads r (line_of_two k name) → Spells r row
two_spelled row word name k r whole word_none name_none is read =
    row_read row (word ∷ name ∷ []) r whole (ap (cut 3) whole ∙ cut_two word name word_none name_none) tt
    (subst (Reads r) (sym (ap (λ o. o >>= λ found. line_behind found (name ∷ [])) is)) read)

-- a row of three words
pub three_spelled : (row word behind name third : List ℕ) (k : Keyword) (r : Result Line RowError) → row ≡ word ++ 32 ∷ behind → HasNoSpace word → behind ≡ name ++ 32 ∷ third → HasNoSpace name → HasNoSpace third
    → keyword_in word ≡ Some k → Reads r (line_of_three k name third) → Spells r row
three_spelled row word behind name third k r whole word_none more name_none third_none is read =
    let all : row ≡ word ++ 32 ∷ (name ++ 32 ∷ third) = whole ∙ ap (λ x. word ++ 32 ∷ x) more in
    row_read row (word ∷ name ∷ third ∷ []) r all (ap (cut 3) all ∙ cut_three word name third word_none name_none third_none) tt
    (subst (Reads r) (sym (ap (λ o. o >>= λ found. line_behind found (name ∷ third ∷ [])) is)) read)

-- a row of four words
pub four_spelled : (row word behind name last third rest : List ℕ) (k : Keyword) (r : Result Line RowError) → IsText row → row ≡ word ++ 32 ∷ behind → HasNoSpace word → behind ≡ name ++ 32 ∷ last → HasNoSpace name
    → last ≡ third ++ 32 ∷ rest → HasNoSpace third → keyword_in word ≡ Some k → Reads r (line_of_four k name third rest) → Spells r row
four_spelled row word behind name last third rest k r text whole word_none more name_none end third_none is read =
    let all : row ≡ word ++ 32 ∷ (name ++ 32 ∷ (third ++ 32 ∷ rest)) = whole ∙ ap (λ x. word ++ 32 ∷ x) (more ∙ ap (λ x. name ++ 32 ∷ x) end) in
    let is_text = text_behind last third rest end (text_behind behind name last more (text_behind row word behind whole text)) in
    row_read row (word ∷ name ∷ third ∷ rest ∷ []) r all (ap (cut 3) all ∙ cut_four word name third rest word_none name_none third_none) is_text
    (subst (Reads r) (sym (ap (λ o. o >>= λ found. line_behind found (name ∷ third ∷ rest ∷ [])) is)) read)
