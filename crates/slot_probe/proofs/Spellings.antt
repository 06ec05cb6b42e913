-- Bytes that spell a string, or none.
use Rattle.std.proofs.Common.{◌≡◌, ◌≤◌, ◌<◌, ◌≢◌, ◌-◌, ◌^◌, ℕ, zero, suc, List, [], ◌∷◌, ◌++◌, length, drop, refl, sym, ap, ◌∙◌, arith, get_or}
use Rattle.std.proofs.lemmas.Nat.{le_bytes_4, from_le_bytes-to_le_bytes_4}
use Rattle.std.specs.Int.{to_le_bytes, from_le_bytes, w32}
use Rattle.frs_journal.specs.Slots.{framed}
use Rattle.frs_journal.proofs.Fronts.{length_framed}

abbrev pub length_at : List ℕ → ℕ
length_at bytes = from_le_bytes w32 (get_or bytes 1 0 ∷ get_or bytes 2 0 ∷ get_or bytes 3 0 ∷ get_or bytes 4 0 ∷ [])

pub too_short : (bytes x : List ℕ) → length bytes < 5 → 0 ∷ framed x ≡ bytes → ⊥
too_short bytes x short is = omega (arith, ap length is, length_framed x, short)

pub other_tag : (bytes x : List ℕ) → get_or bytes 0 0 ≢ 0 → 0 ∷ framed x ≡ bytes → ⊥
other_tag bytes x other is = other (sym (ap (λ (l : List ℕ). get_or l 0 0) is))

pub other_length : (bytes x : List ℕ) (n : ℕ) → n ≡ length_at bytes → (n ≡ length bytes - 5 → ⊥) → length x < 2 ^ 32 → 0 ∷ framed x ≡ bytes → ⊥
unfolding framed
other_length bytes x n counted other short is =
    let e : n ≡ length x = counted ∙ sym (ap length_at is) ∙ from_le_bytes-to_le_bytes_4 (length x) short in
    other (omega (arith, e, ap length is, length_framed x))

small_four : (x a b c d : ℕ) (tail : List ℕ) → ((i : ℕ) → get_or (x ∷ a ∷ b ∷ c ∷ d ∷ tail) i 0 < 256) → (i : ℕ) → get_or (a ∷ b ∷ c ∷ d ∷ []) i 0 < 256
small_four x a b c d tail small zero = small 1
small_four x a b c d tail small (suc zero) = small 2
small_four x a b c d tail small (suc (suc zero)) = small 3
small_four x a b c d tail small (suc (suc (suc zero))) = small 4
small_four x a b c d tail small (suc (suc (suc (suc i)))) = omega arith

pub spelled_whole : (bytes : List ℕ) (n : ℕ) → ((i : ℕ) → get_or bytes i 0 < 256) → 5 ≤ length bytes → get_or bytes 0 0 ≡ 0 → n ≡ length_at bytes → n ≡ length bytes - 5
    → 0 ∷ framed (drop 5 bytes) ≡ bytes
unfolding framed
spelled_whole [] n small long first counted size = absurd (omega (arith, long))
spelled_whole (x ∷ []) n small long first counted size = absurd (omega (arith, long))
spelled_whole (x ∷ a ∷ []) n small long first counted size = absurd (omega (arith, long))
spelled_whole (x ∷ a ∷ b ∷ []) n small long first counted size = absurd (omega (arith, long))
spelled_whole (x ∷ a ∷ b ∷ c ∷ []) n small long first counted size = absurd (omega (arith, long))
spelled_whole (x ∷ a ∷ b ∷ c ∷ d ∷ tail) n small long first counted size =
    let four : List ℕ = a ∷ b ∷ c ∷ d ∷ [] in
    let is : length tail ≡ n = omega (arith, size) in
    let e : to_le_bytes w32 (length tail) ≡ four = le_bytes_4 four (length tail) refl (small_four x a b c d tail small) (is ∙ counted) in
    ap (λ (l : List ℕ). 0 ∷ (l ++ tail)) e ∙ ap (λ (y : ℕ). y ∷ a ∷ b ∷ c ∷ d ∷ tail) (sym first)
