-- What a sink took of the answers of some first rows.
use Rattle.std.proofs.Common.{◌≡◌, ◌∙◌, ℕ, ◌+◌, ◌<◌, ◌≤◌, List, [], ◌∷◌, ◌++◌, Option, length, take, drop, refl, sym, ap, subst, append_assoc, append-nil, arith}
use Rattle.frs_io.specs.Told.{HandsOn, Takes, TakesSome}
use Rattle.frs_io.proofs.Told.{Takes-TakesSome, Takes-trans, TakesSome-append, TakesSome-of_Takes}
use Rattle.slot_probe.specs.Rows.{AllAnswered, Answered, Lacks, Writes, WritesSome, ended}
use Rattle.slot_probe.proofs.Words.{PartsAt}

ended_push : (rows : List (List ℕ)) (row : List ℕ) → ended (rows ++ row ∷ []) ≡ ended rows ++ (row ++ 10 ∷ [])
ended_push [] row = append-nil (row ++ 10 ∷ [])
ended_push (first ∷ rows) row = ap (λ t. (first ++ 10 ∷ []) ++ t) (ended_push rows row) ∙ sym (append_assoc (first ++ 10 ∷ []) (ended rows) (row ++ 10 ∷ []))

answered_push : (rows : List (List ℕ)) (said row text : List ℕ) → AllAnswered rows said → Answered row text → AllAnswered (rows ++ row ∷ []) (said ++ text)
answered_push [] said row text none answered = (text, [], answered, refl, ap (λ s. s ++ text) none ∙ sym (append-nil text))
answered_push (first ∷ rows) said row text (one, more, is, are, parts) answered =
    (one, more ++ text, is, answered_push rows more row text are answered, ap (λ s. s ++ text) parts ∙ append_assoc one more text)

-- the text begins with some rows, of whose answers some are written and the rest is pending
pub record SoFar (text rest : List ℕ) (old now : Option (List ℕ)) (pending : List ℕ) : Type 0 where
  pub rows : List (List ℕ)
  pub said : List ℕ
  pub front : List ℕ
  pub parts : text ≡ ended rows ++ rest
  pub answered : AllAnswered rows said
  pub takes : Takes old now front
  pub split : said ≡ front ++ pending

pub nothing_yet : (text : List ℕ) (old : Option (List ℕ)) → Takes old old [] → SoFar text text old old []
nothing_yet text old none = record { rows = []; said = []; front = []; parts = refl; answered = refl; takes = none; split = refl }

-- a row more was answered
pub one_row : (text rest : List ℕ) (old now : Option (List ℕ)) (pending grown said : List ℕ) (at : ℕ) → SoFar text rest old now pending → PartsAt 10 rest at → Answered (take at rest) said
    → grown ≡ pending ++ said → SoFar text (drop (at + 1) rest) old now grown
one_row text rest old now pending grown said at s at_feed answered more =
    let row : List ℕ = take at rest in
    let behind : List ℕ = drop (at + 1) rest in
    record {
      rows = s.rows ++ take at rest ∷ [];
      said = s.said ++ said;
      front = s.front;
      parts = s.parts ∙ ap (λ r. ended s.rows ++ r) (at_feed.parts ∙ sym (append_assoc row (10 ∷ []) behind)) ∙ sym (append_assoc (ended s.rows) (row ++ 10 ∷ []) behind) ∙ ap (λ t. t ++ behind) (sym (ended_push s.rows row));
      answered = answered_push s.rows s.said row said s.answered answered;
      takes = s.takes;
      split = ap (λ t. t ++ said) s.split ∙ append_assoc s.front pending said ∙ ap (λ t. s.front ++ t) (sym more);
    }

-- some of what was pending was written
pub moved : (text rest : List ℕ) (old now new : Option (List ℕ)) (before after : List ℕ) → SoFar text rest old now before → HandsOn now new before after → SoFar text rest old new after
moved text rest old now new before after s (front, takes, parts) = record {
  rows = s.rows;
  said = s.said;
  front = s.front ++ front;
  parts = s.parts;
  answered = s.answered;
  takes = Takes-trans old now new s.front front s.takes takes;
  split = s.split ∙ ap (λ p. s.front ++ p) parts ∙ sym (append_assoc s.front front after);
}

-- a beginning was written: nothing more, or some of what was pending
pub some_now : (text rest : List ℕ) (old now : Option (List ℕ)) (pending : List ℕ) → SoFar text rest old now pending → WritesSome text old now
some_now text rest old now pending s =
    (s.said, (s.rows, rest, s.parts, s.answered), subst (TakesSome old now) (sym s.split) (TakesSome-append old now s.front pending (TakesSome-of_Takes old now s.front s.takes)))

pub some_more : (text rest : List ℕ) (old now new : Option (List ℕ)) (pending : List ℕ) → SoFar text rest old now pending → TakesSome now new pending → WritesSome text old new
some_more text rest old now new pending s some =
    (s.said, (s.rows, rest, s.parts, s.answered), subst (TakesSome old new) (sym s.split) (Takes-TakesSome old now new s.front pending s.takes some))

-- all was written
pub all_written : (text rest : List ℕ) (old now new : Option (List ℕ)) (pending : List ℕ) → SoFar text rest old now pending → Lacks 10 rest → Takes now new pending → Writes text old new
all_written text rest old now new pending s lacks takes =
    (s.said, (s.rows, rest, s.parts, lacks, s.answered), subst (Takes old new) (sym s.split) (Takes-trans old now new s.front pending s.takes takes))
