-- Bytes at their first line feed.
use Rattle.std.proofs.Common.{◌≡◌, ◌≢◌, ◌∙◌, ℕ, ◌+◌, ◌<◌, ◌≤◌, Bool, true, false, cond, eqb, ltb, List, [], ◌∷◌, ◌++◌, Option, Some, None, length, get_or, take, drop, refl, sym, ap, subst, append_assoc, arith, length-take}
use Rattle.std.specs.Prelude.{position}
use Rattle.std.specs.List.{position_or_len}
use Rattle.std.proofs.lemmas.Bool.{eqb-true, ltb-false, ltb-true}
use Rattle.std.proofs.lemmas.Bool.Decides.{nat_tests}
use Rattle.std.proofs.lemmas.List.{get_or-take}
use Rattle.std.proofs.lemmas.List.Elements.{All-from_get_or}
use Rattle.std.proofs.lemmas.List.Sums.{fails_before_first, passes_at_first, split_at_first}
use Rattle.frswire.specs.Rows.{HasNoLineFeed}

abbrev pub is_feed : ℕ → Bool
is_feed b = eqb b 10

not_feed : (b : ℕ) → eqb b 10 ≡ false → b ≢ 10
not_feed b other is = absurd (grind (arith, nat_tests))

cond_none : (b : Bool) (n : ℕ) → cond b (Some n) None ≡ None → b ≡ false
cond_none true n e = absurd cc
cond_none false n e = refl

cond_some : (b : Bool) (n m : ℕ) → cond b (Some n) None ≡ Some m → (b ≡ true) × (n ≡ m)
cond_some true n m e = (refl, cc)
cond_some false n m e = absurd cc

-- none
pub no_feed : (bytes : List ℕ) → position is_feed bytes ≡ None → HasNoLineFeed bytes
no_feed bytes e =
    let past : length bytes ≤ position_or_len is_feed bytes = ltb-false _ _ (cond_none _ _ e) in
    All-from_get_or (λ b. b ≢ 10) bytes 0 (λ i within. not_feed (get_or bytes i 0) (fails_before_first is_feed bytes i 0 (omega arith)))

-- the first one, at this place
pub record FeedsAt (bytes : List ℕ) (at : ℕ) : Type 0 where
  pub within : at < length bytes
  pub size : length (take at bytes) ≡ at
  pub lacks : HasNoLineFeed (take at bytes)
  pub parts : bytes ≡ take at bytes ++ 10 ∷ drop (at + 1) bytes

pub feeds_at : (bytes : List ℕ) (at : ℕ) → position is_feed bytes ≡ Some at → FeedsAt bytes at
feeds_at bytes at e =
    let found = cond_some _ _ at e in
    let first : position_or_len is_feed bytes ≡ at = found.1 in
    let below : position_or_len is_feed bytes < length bytes = ltb-true _ _ found.0 in
    let ten : get_or bytes (position_or_len is_feed bytes) 0 ≡ 10 = eqb-true _ _ (passes_at_first is_feed bytes 0 below) in
    let size : length (take at bytes) ≡ at = omega (arith, below, first, length-take at bytes) in
    record {
      within = omega arith;
      size = size;
      lacks = All-from_get_or (λ b. b ≢ 10) (take at bytes) 0 (λ i within.
          let small : i < at = omega (arith, within, size) in
          not_feed (get_or (take at bytes) i 0) (ap (λ b. eqb b 10) (get_or-take at bytes i 0 small) ∙ fails_before_first is_feed bytes i 0 (omega arith)));
      parts =
          split_at_first is_feed bytes 0 below
          ∙ ap (λ b. take (position_or_len is_feed bytes) bytes ++ b ∷ drop (position_or_len is_feed bytes + 1) bytes) ten
          ∙ ap (λ k. take k bytes ++ 10 ∷ drop (k + 1) bytes) first;
    }
