-- What a torn write or cut may leave of a disk that was at rest.
use Rattle.std.proofs.Common.{◌≡◌, ◌≤◌, ◌<◌, ℕ, ◌+◌, ◌-◌, List, [], ◌∷◌, length, take, drop, sym, ap, ◌∙◌, arith, inl, inr, length-drop}
use Rattle.std.proofs.lemmas.List.{get_or-take, get_or-drop, length-take-le, ext_get_or}
use Rattle.frs_disk.specs.Crashes.{still, wrote, cut_to, IsImage, IsTorn}

pub before_torn : (at n k : ℕ) → k < at → IsTorn ((at, n) ∷ []) k → ⊥
before_torn at n k lt (inl r) = absurd (omega (arith, lt, r.0))
before_torn at n k lt (inr none) = none

pub after_torn : (at n k : ℕ) → at + n ≤ k → IsTorn ((at, n) ∷ []) k → ⊥
after_torn at n k le (inl r) = absurd (omega (arith, le, r.1))
after_torn at n k le (inr none) = none

-- what stands before the written range
pub image_front : (at : ℕ) (bytes xs c : List ℕ) → at ≤ length xs → IsImage (wrote at bytes (still xs)) c → take at c ≡ take at xs
image_front at bytes xs c le image =
    let enough : at ≤ length c = omega (arith, le, image.no_shorter) in
    let n : length (take at c) ≡ at = length-take-le at c enough in
    let m : length (take at xs) ≡ at = length-take-le at xs le in
    ext_get_or 0 (take at c) (take at xs) (n ∙ sym m)
    (λ k lt. (let small : k < at = omega (arith, lt, n) in
    get_or-take at c k 0 small ∙ image.kept k (omega (arith, small, enough)) (omega (arith, small, le)) (before_torn at (length bytes) k small) ∙ sym (get_or-take at xs k 0 small)))

-- a write inside leaves the length
pub image_length : (at : ℕ) (bytes xs c : List ℕ) → at + length bytes ≤ length xs → IsImage (wrote at bytes (still xs)) c → length c ≡ length xs
image_length at bytes xs c le image = omega (arith, le, image.no_shorter, image.no_longer)

-- what stands behind the written range
pub image_back : (at : ℕ) (bytes xs c : List ℕ) → at + length bytes ≤ length xs → IsImage (wrote at bytes (still xs)) c → drop (at + length bytes) c ≡ drop (at + length bytes) xs
image_back at bytes xs c le image =
    let same = image_length at bytes xs c le image in
    let end : ℕ = at + length bytes in
    let n : length (drop (at + length bytes) c) ≡ length (drop (at + length bytes) xs) = length-drop (at + length bytes) c ∙ ap (λ k. k - (at + length bytes)) same ∙ sym (length-drop (at + length bytes) xs) in
    ext_get_or 0 (drop (at + length bytes) c) (drop (at + length bytes) xs) n
    (λ k lt. (let small : at + length bytes + k < length c = omega (arith, lt, length-drop (at + length bytes) c) in
    get_or-drop (at + length bytes) c k 0 ∙ image.kept (at + length bytes + k) small (omega (arith, small, same)) (after_torn at (length bytes) (at + length bytes + k) (omega arith)) ∙ sym (get_or-drop (at + length bytes) xs k 0)))

-- a cut leaves a part from the front
pub image_cut : (n : ℕ) (xs c : List ℕ) → n ≤ length xs → IsImage (cut_to n (still xs)) c → (n ≤ length c) × (length c ≤ length xs) × (take (length c) xs ≡ c)
image_cut n xs c le image =
    let short : n ≤ length c = omega (arith, le, image.no_shorter) in
    let long : length c ≤ length xs = image.no_longer in
    let m : length (take (length c) xs) ≡ length c = length-take-le (length c) xs long in (
      short,
      long,
      ext_get_or 0 (take (length c) xs) c m
          (λ k lt. (let small : k < length c = omega (arith, lt, m) in
          get_or-take (length c) xs k 0 small ∙ sym (image.kept k small (omega (arith, small, long)) (λ torn. torn)))),
    )
