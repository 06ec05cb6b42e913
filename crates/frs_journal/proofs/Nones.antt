-- Slots that aren't valid.
use Rattle.std.proofs.Common.{◌≡◌, ◌≤◌, ◌<◌, ◌⊎◌, ℕ, ◌+◌, ◌&&◌, not, Bool, true, false, List, [], ◌∷◌, length, take, drop, refl, sym, ap, ◌∙◌, arith, inl, inr, Some, None, nat_le, nat_eq, get_or, if◌then◌else◌}
use Rattle.std.proofs.lemmas.Bool.{le-leb, lt-leb, ne_eqb}
use Rattle.std.proofs.lemmas.List.{drop-take, take-take, get_or-take, length-take}
use Rattle.std.specs.Cmp.Lexicographic.{pointwise}
use Rattle.std.specs.Int.{from_le_bytes, w64}
use Rattle.frs_disk.proofs.Stands.{side}
use Rattle.frs_journal.specs.Gates.{IsCleared}
use Rattle.frs_journal.specs.Slots.{generation_of, has_magic, is_bad, is_marked, magic, takes_b, Yields}
use Rattle.frs_journal.specs.Unmade.{IsNone}

unmarked_none : (c : List ℕ) → is_marked c ≡ false → IsNone c
unfolding is_bad generation_of
unmarked_none c marked = record {
  fine = ap (λ b. b && not (has_magic c)) marked;
  unmarked = ap (λ b. if b && has_magic c then Some (from_le_bytes w64 (take 8 (drop 9 c))) else None) marked;
}

pub short_none : (c : List ℕ) → length c < 26 → IsNone c
short_none c short = unmarked_none c (ap (λ b. b && nat_eq (get_or c 0 0) 1) (lt-leb 26 (length c) short))

and_no : (b : Bool) → (b && false) ≡ false
and_no true = refl
and_no false = refl

pub closed_none : (x : ℕ) (rest : List ℕ) → (x ≡ 1 → ⊥) → IsNone (x ∷ rest)
closed_none x rest closed =
    unmarked_none (x ∷ rest) (ap (λ b. nat_le 26 (length (x ∷ rest)) && b) (ne_eqb x 1 closed) ∙ and_no (nat_le 26 (length (x ∷ rest))))

pub empty_none : IsNone []
empty_none = short_none [] (omega arith)

-- a part of a part
part_of : (m n k : ℕ) (xs : List ℕ) → n + m ≤ k → take m (drop n (take k xs)) ≡ take m (drop n xs)
part_of m n k xs le =
    sym (drop-take n m (take k xs)) ∙ ap (λ (l : List ℕ). drop n l) (take-take (n + m) k xs le) ∙ drop-take n m xs

-- a part of a slot with its header in it says the same
pub head_same : (xs d : List ℕ) → 26 ≤ length d → length d ≤ length xs → take (length d) xs ≡ d → (is_bad d ≡ is_bad xs) × (generation_of d ≡ generation_of xs)
unfolding is_bad generation_of
head_same xs d long le front =
    let first : get_or d 0 0 ≡ get_or xs 0 0 = ap (λ (l : List ℕ). get_or l 0 0) (sym front) ∙ get_or-take (length d) xs 0 0 (omega (arith, long)) in
    let words : take 8 (drop 1 d) ≡ take 8 (drop 1 xs) = ap (λ (l : List ℕ). take 8 (drop 1 l)) (sym front) ∙ part_of 8 1 (length d) xs (omega (arith, long)) in
    let number : take 8 (drop 9 d) ≡ take 8 (drop 9 xs) = ap (λ (l : List ℕ). take 8 (drop 9 l)) (sym front) ∙ part_of 8 9 (length d) xs (omega (arith, long)) in
    let lengths : nat_le 26 (length d) ≡ nat_le 26 (length xs) = le-leb 26 (length d) long ∙ sym (le-leb 26 (length xs) (omega (arith, long, le))) in
    let marks : is_marked d ≡ is_marked xs = ap (λ b. b && nat_eq (get_or d 0 0) 1) lengths ∙ ap (λ x. nat_le 26 (length xs) && nat_eq x 1) first in
    let magics : has_magic d ≡ has_magic xs = ap (λ (l : List ℕ). pointwise nat_eq l magic) words in (
      ap (λ b. b && not (has_magic d)) marks ∙ ap (λ b. is_marked xs && not b) magics,
      ap (λ b. if b && has_magic d then Some (from_le_bytes w64 (take 8 (drop 9 d))) else None) marks
          ∙ ap (λ b. if is_marked xs && b then Some (from_le_bytes w64 (take 8 (drop 9 d))) else None) magics
          ∙ ap (λ (l : List ℕ). if is_marked xs && has_magic xs then Some (from_le_bytes w64 l) else None) number,
    )

-- what is left of a slot that isn't valid isn't valid
pub cleared_none : (xs d : List ℕ) → IsNone xs → IsCleared xs d → IsNone d
cleared_none xs d none (inr short) = short_none d (omega (arith, short))
cleared_none xs d none (inl front) = by_length (side (length d) 26)
  where
    by_length : (length d < 26) ⊎ (26 ≤ length d) → IsNone d
    by_length (inl short) = short_none d short
    by_length (inr long) =
        let same = head_same xs d long (omega (arith, ap length front, length-take (length d) xs)) front in
        record { fine = same.0 ∙ none.fine; unmarked = same.1 ∙ none.unmarked }

-- it yields to a valid one
pub none_yields : (in_b : Bool) (g : ℕ) (d : List ℕ) → IsNone d → Yields in_b (Some g) d
none_yields true g d none = record { good = none.fine; over = ap (λ o. takes_b o (Some g)) none.unmarked }
none_yields false g d none = record { good = none.fine; over = ap (takes_b (Some g)) none.unmarked }
