-- What a sink took of the answers of some first rows.
use Rattle.std.proofs.Common.{◌≡◌, ◌∙◌, ℕ, ◌+◌, ◌<◌, ◌≤◌, List, [], ◌∷◌, ◌++◌, Option, length, drop, refl, sym, ap, subst, append_assoc, append-nil, arith, length-append, inl, inr}
use Rattle.std.specs.Prelude.{string_bytes}
use Rattle.std.proofs.lemmas.List.{length_push}
use Rattle.frs_io.specs.Told.{HandsOn, Takes, TakesSome}
use Rattle.frs_io.proofs.Told.{Takes-TakesSome, Takes-trans, TakesSome-append, TakesSome-of_Takes}
use Rattle.frswire.specs.Rows.{AllAnswered, Answered, HasNoLineFeed, IsBadRow, IsBadText, IsLongText, IsText, Writes, WritesSome, bad_line, ended}
use Rattle.frswire.specs.Steps.{IsNext}
use Rattle.frswire.specs.declared.rows.Found.{Found}
use Rattle.frswire.specs.declared.rows.Found.TheVariants as founds

-- ---- rows one after the other

ended_push : (rows : List (List ℕ)) (row : List ℕ) → ended (rows ++ row ∷ []) ≡ ended rows ++ (row ++ 10 ∷ [])
ended_push [] row = append-nil (row ++ 10 ∷ [])
ended_push (first ∷ rows) row = ap (λ t. (first ++ 10 ∷ []) ++ t) (ended_push rows row) ∙ sym (append_assoc (first ++ 10 ∷ []) (ended rows) (row ++ 10 ∷ []))

answered_push : (rows : List (List ℕ)) (said row text : List ℕ) → AllAnswered rows said → Answered row text → AllAnswered (rows ++ row ∷ []) (said ++ text)
answered_push [] said row text none answered = (text, [], answered, refl, ap (λ s. s ++ text) none ∙ sym (append-nil text))
answered_push (first ∷ rows) said row text (one, more, is, are, parts) answered =
    (one, more ++ text, is, answered_push rows more row text are answered, ap (λ s. s ++ text) parts ∙ append_assoc one more text)

pub rows_few : (rows : List (List ℕ)) → length rows ≤ length (ended rows)
rows_few [] = omega arith
rows_few (row ∷ rows) = omega (arith, rows_few rows, length-append (row ++ 10 ∷ []) (ended rows), length-append row (10 ∷ []))

-- ---- what was written so far

-- the text begins with so many rows, of whose answers some are written and the rest is pending
pub record SoFar (text rest : List ℕ) (number : ℕ) (old now : Option (List ℕ)) (pending : List ℕ) : Type 0 where
  pub rows : List (List ℕ)
  pub said : List ℕ
  pub front : List ℕ
  pub parts : text ≡ ended rows ++ rest
  pub answered : AllAnswered rows said
  pub count : number ≡ length rows
  pub takes : Takes old now front
  pub split : said ≡ front ++ pending

pub nothing_yet : (text : List ℕ) (old : Option (List ℕ)) → Takes old old [] → SoFar text text 0 old old []
nothing_yet text old none = record { rows = []; said = []; front = []; parts = refl; answered = refl; count = refl; takes = none; split = refl }

-- the number of the next row has room
pub number_fits : (text rest : List ℕ) (number : ℕ) (old now : Option (List ℕ)) (pending : List ℕ) → SoFar text rest number old now pending → number ≤ length text
number_fits text rest number old now pending s = omega (arith, s.count, rows_few s.rows, ap length s.parts, length-append (ended s.rows) rest)

-- a row more was answered
one_row : (text rest : List ℕ) (number : ℕ) (old now : Option (List ℕ)) (pending row said : List ℕ) (size : ℕ) → SoFar text rest number old now pending → rest ≡ (row ++ 10 ∷ []) ++ drop size rest → Answered row said
    → SoFar text (drop size rest) (number + 1) old now (pending ++ said)
one_row text rest number old now pending row said size s cut answered = record {
  rows = s.rows ++ row ∷ [];
  said = s.said ++ said;
  front = s.front;
  parts = s.parts ∙ ap (λ r. ended s.rows ++ r) cut ∙ sym (append_assoc (ended s.rows) (row ++ 10 ∷ []) (drop size rest)) ∙ ap (λ t. t ++ drop size rest) (sym (ended_push s.rows row));
  answered = answered_push s.rows s.said row said s.answered answered;
  count = omega (arith, s.count, length_push s.rows row);
  takes = s.takes;
  split = ap (λ t. t ++ said) s.split ∙ append_assoc s.front pending said;
}

pub next_row : (text rest : List ℕ) (number : ℕ) (old now : Option (List ℕ)) (pending grown said : List ℕ) (size : ℕ) → SoFar text rest number old now pending
    → (row : List ℕ) × (size ≡ length row + 1) × (rest ≡ (row ++ 10 ∷ []) ++ drop size rest) × Answered row said → grown ≡ pending ++ said → SoFar text (drop size rest) (number + 1) old now grown
next_row text rest number old now pending grown said size s (row, size_is, cut, answered) more =
    subst (SoFar text (drop size rest) (number + 1) old now) (sym more) (one_row text rest number old now pending row said size s cut answered)

-- some of what was pending was written
pub moved : (text rest : List ℕ) (number : ℕ) (old now new : Option (List ℕ)) (before after : List ℕ) → SoFar text rest number old now before → HandsOn now new before after → SoFar text rest number old new after
moved text rest number old now new before after s (front, takes, parts) = record {
  rows = s.rows;
  said = s.said;
  front = s.front ++ front;
  parts = s.parts;
  answered = s.answered;
  count = s.count;
  takes = Takes-trans old now new s.front front s.takes takes;
  split = s.split ∙ ap (λ p. s.front ++ p) parts ∙ sym (append_assoc s.front front after);
}

-- ---- a beginning was written

-- nothing more
pub some_now : (text rest : List ℕ) (number : ℕ) (old now : Option (List ℕ)) (pending : List ℕ) → SoFar text rest number old now pending → WritesSome text old now
some_now text rest number old now pending s =
    (s.said, inl (s.rows, rest, s.parts, s.answered), subst (TakesSome old now) (sym s.split) (TakesSome-append old now s.front pending (TakesSome-of_Takes old now s.front s.takes)))

-- some of what was pending
pub some_more : (text rest : List ℕ) (number : ℕ) (old now new : Option (List ℕ)) (pending : List ℕ) → SoFar text rest number old now pending → TakesSome now new pending → WritesSome text old new
some_more text rest number old now new pending s some =
    (s.said, inl (s.rows, rest, s.parts, s.answered), subst (TakesSome old new) (sym s.split) (Takes-TakesSome old now new s.front pending s.takes some))

-- ---- all was written

all_said : (text rest : List ℕ) (number : ℕ) (old now new : Option (List ℕ)) (pending line : List ℕ) (s : SoFar text rest number old now pending) → Takes now new (pending ++ line) → Takes old new (s.said ++ line)
all_said text rest number old now new pending line s takes =
    subst (Takes old new) (sym (ap (λ t. t ++ line) s.split ∙ append_assoc s.front pending line)) (Takes-trans old now new s.front (pending ++ line) s.takes takes)

pub all_written : (text rest : List ℕ) (number : ℕ) (old now new : Option (List ℕ)) (pending : List ℕ) → SoFar text rest number old now pending → Takes now new pending → rest ≡ [] → Writes IsText text old new
all_written text rest number old now new pending s takes none =
    (s.said, (s.rows, s.parts ∙ ap (λ r. ended s.rows ++ r) none ∙ append-nil (ended s.rows), s.answered), subst (Takes old new) (sym s.split) (Takes-trans old now new s.front pending s.takes takes))

pub long_written : (text rest : List ℕ) (number : ℕ) (old now new : Option (List ℕ)) (pending : List ℕ) → SoFar text rest number old now pending → Takes now new pending → IsNext founds.Long rest → Writes IsLongText text old new
long_written text rest number old now new pending s takes (row, behind, parts, lacks, long) =
    (s.said, (s.rows, row, behind, s.parts ∙ ap (λ r. ended s.rows ++ r) parts, lacks, long, s.answered), subst (Takes old new) (sym s.split) (Takes-trans old now new s.front pending s.takes takes))

-- what is to be written where a row asks nothing
is_bad : (text rest : List ℕ) (number : ℕ) (old now : Option (List ℕ)) (pending : List ℕ) (s : SoFar text rest number old now pending) → IsNext founds.Bad rest → IsBadText text (s.said ++ bad_line (number + 1))
is_bad text rest number old now pending s (row, behind, parts, bad) =
    (s.rows, row, behind, s.said, s.parts ∙ ap (λ r. ended s.rows ++ r) parts, bad, s.answered, ap (λ n. s.said ++ bad_line (n + 1)) s.count)

pub bad_written : (text rest : List ℕ) (number : ℕ) (old now new : Option (List ℕ)) (pending grown : List ℕ) → SoFar text rest number old now pending → grown ≡ pending ++ bad_line (number + 1) → Takes now new grown → IsNext founds.Bad rest
    → Writes IsBadText text old new
bad_written text rest number old now new pending grown s more takes bad =
    (s.said ++ bad_line (number + 1), is_bad text rest number old now pending s bad, all_said text rest number old now new pending (bad_line (number + 1)) s (subst (Takes now new) more takes))

pub bad_some : (text rest : List ℕ) (number : ℕ) (old now new : Option (List ℕ)) (pending grown : List ℕ) → SoFar text rest number old now pending → grown ≡ pending ++ bad_line (number + 1) → TakesSome now new grown → IsNext founds.Bad rest
    → WritesSome text old new
bad_some text rest number old now new pending grown s more some bad = (
  s.said ++ bad_line (number + 1),
  inr (is_bad text rest number old now pending s bad),
  subst (TakesSome old new) (sym (ap (λ t. t ++ bad_line (number + 1)) s.split ∙ append_assoc s.front pending (bad_line (number + 1))))
      (Takes-TakesSome old now new s.front (pending ++ bad_line (number + 1)) s.takes (subst (TakesSome now new) more some)),
)

-- a row has a line feed at least, and its bytes are there
pub row_there : (rest said : List ℕ) (size : ℕ) → (row : List ℕ) × (size ≡ length row + 1) × (rest ≡ (row ++ 10 ∷ []) ++ drop size rest) × Answered row said → (size ≤ length rest) × (length (drop size rest) < length rest)
row_there rest said size (row, size_is, cut, answered) =
    let long : length rest ≡ length row + 1 + length (drop size rest) = ap length cut ∙ length-append (row ++ 10 ∷ []) (drop size rest) ∙ ap (λ n. n + length (drop size rest)) (length-append row (10 ∷ [])) in
    (omega (arith, long, size_is), omega (arith, long))
