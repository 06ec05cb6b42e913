-- Words parted by one space, each of which spells bytes.
use Rattle.std.proofs.Common.{◌≡◌, ◌∙◌, ℕ, zero, suc, ◌<◌, ◌+◌, List, [], ◌∷◌, ◌++◌, Option, Some, None, Err, Bor, length, get_or, take, drop, refl, sym, ap, subst, arith}
use Rattle.std.specs.Iterator.{Yields}
use Rattle.std.proofs.lemmas.Iterator.{YieldsList}
use Rattle.std.proofs.lemmas.Iterator.Consumers.{YieldsList-end, YieldsList-turn}
use Rattle.std.proofs.lemmas.Option.{same_Some}
use Rattle.std.proofs.lemmas.List.{get_or_default, length_push, take_all, take_more}
use Rattle.wire_rows.specs.Reading.{◌>>=◌, Reads, all_bytes, bytes_in}
use Rattle.wire_rows.specs.declared.errors.RowError.{RowError}
use Rattle.wire_rows.specs.declared.errors.RowError.TheVariants.{Bad, Memory}

-- what is read first, and what is read behind it
abbrev onto : List ℕ → Option (List (List ℕ)) → Option (List (List ℕ))
onto bytes more = more >>= λ rest. Some (bytes ∷ rest)

first_some : (word : List ℕ) (words : List (List ℕ)) (bytes : List ℕ) → bytes_in word ≡ Some bytes → all_bytes (word ∷ words) ≡ onto bytes (all_bytes words)
first_some word words bytes is = ap (λ f. f >>= λ own. all_bytes words >>= λ rest. Some (own ∷ rest)) is

first_none : (word : List ℕ) (words : List (List ℕ)) → bytes_in word ≡ None → all_bytes (word ∷ words) ≡ None
first_none word words is = ap (λ f. f >>= λ own. all_bytes words >>= λ rest. Some (own ∷ rest)) is

onto_some : (bytes : List ℕ) (more : Option (List (List ℕ))) (pieces : List (List ℕ)) → onto bytes more ≡ Some pieces → (rest : List (List ℕ)) × (more ≡ Some rest) × (bytes ∷ rest ≡ pieces)
onto_some bytes None pieces e = absurd cc
onto_some bytes (Some rest) pieces e = (rest, refl, same_Some (bytes ∷ rest) pieces e)

-- where the words before it are read
more_words : (own : List ℕ) (found : Option (List ℕ)) (words : List (List ℕ)) (pieces : List (List ℕ)) → (found >>= λ bytes. onto bytes (all_bytes words)) ≡ Some pieces
    → (bytes : List ℕ) × (rest : List (List ℕ)) × (found ≡ Some bytes) × (all_bytes words ≡ Some rest) × (bytes ∷ rest ≡ pieces)
more_words own None words pieces e = absurd cc
more_words own (Some bytes) words pieces e =
    let (rest, is, same) = onto_some bytes (all_bytes words) pieces e in
    (bytes, rest, refl, is, same)

-- a word more
pub one_more : (words : List (List ℕ)) (pieces : List (List ℕ)) (word bytes : List ℕ) → all_bytes words ≡ Some pieces → bytes_in word ≡ Some bytes → all_bytes (words ++ word ∷ []) ≡ Some (pieces ++ bytes ∷ [])
one_more [] pieces word bytes e is = first_some word [] bytes is ∙ ap (λ ps. Some (ps ++ bytes ∷ [])) (same_Some [] pieces e)
one_more (first ∷ words) pieces word bytes e is =
    let (own, rest, found, more, same) = more_words first (bytes_in first) words pieces e in
    first_some first (words ++ word ∷ []) own found ∙ ap (onto own) (one_more words rest word bytes more is) ∙ ap (λ ps. Some (ps ++ bytes ∷ [])) same

-- nothing stands behind nothing
found_none : (found : Option (List ℕ)) (more : Option (List (List ℕ))) → more ≡ None → (found >>= λ bytes. onto bytes more) ≡ None
found_none None more none = refl
found_none (Some bytes) more none = ap (onto bytes) none

-- a word that spells none
pub none_of : (words : List (List ℕ)) (i : ℕ) → i < length words → bytes_in (get_or words i []) ≡ None → all_bytes words ≡ None
none_of [] i within none = absurd (omega arith)
none_of (first ∷ words) zero within none = first_none first words none
none_of (first ∷ words) (suc i) within none = found_none (bytes_in first) (all_bytes words) (none_of words i (omega arith) none)

-- ---- a loop over an iterator that gives the words

-- the word that the loop is at
pub word_turn : {S : Type 0} {steps : S → Option (Bor (List ℕ)) → S → Type 0} {s : S} {ws : List (List ℕ)} (xs : List (Bor (List ℕ))) (t : S) → Yields steps s xs t
    → (r : Option (Bor (List ℕ))) (u : S) (word : Bor (List ℕ)) → r ≡ Some word → steps t r u → YieldsList steps (λ x. x.now) s ws → (length xs < length ws) × (get_or ws (length xs) [] ≡ word.now)
word_turn {ws = ws} xs t yielded r u word is step road =
    let (within, at) = YieldsList-turn road xs t yielded r u word is step in
    (within, get_or_default ws (length xs) [] word.now within ∙ sym at)

-- all words were yielded
pub words_end : {S : Type 0} {steps : S → Option (Bor (List ℕ)) → S → Type 0} {s : S} {ws : List (List ℕ)} (xs : List (Bor (List ℕ))) (t : S) → Yields steps s xs t
    → (r : Option (Bor (List ℕ))) (u : S) → r ≡ None → steps t r u → YieldsList steps (λ x. x.now) s ws → take (length xs) ws ≡ ws
words_end {ws = ws} xs t yielded r u is step road =
    let count = (YieldsList-end road xs t yielded r u is step).1 in
    take_all _ _ (omega (arith, count))

-- the pieces once this word is read
pub next_word : (ws : List (List ℕ)) (xs : List (Bor (List ℕ))) (word : Bor (List ℕ)) (pieces more : List (List ℕ)) (bytes : List ℕ) → length xs < length ws → get_or ws (length xs) [] ≡ word.now
    → all_bytes (take (length xs) ws) ≡ Some pieces → bytes_in word.now ≡ Some bytes → more ≡ pieces ++ bytes ∷ [] → all_bytes (take (length (xs ++ word ∷ [])) ws) ≡ Some more
next_word ws xs word pieces more bytes within at so_far spells is =
    ap (λ k. all_bytes (take k ws)) (length_push xs word)
    ∙ ap all_bytes (take_more ws (length xs) [] within ∙ ap (λ w. take (length xs) ws ++ w ∷ []) at)
    ∙ one_more (take (length xs) ws) pieces word.now bytes so_far spells
    ∙ ap Some (sym is)

-- a word that isn't read refuses them all
pub fails_at : (ws : List (List ℕ)) (i : ℕ) (word : List ℕ) (e : RowError) → i < length ws → get_or ws i [] ≡ word → Reads {T = List ℕ} (Err e) (bytes_in word) → Reads {T = List (List ℕ)} (Err e) (all_bytes ws)
fails_at ws i word Bad within at none = none_of ws i within (ap bytes_in at ∙ none)
fails_at ws i word Memory within at none = tt
