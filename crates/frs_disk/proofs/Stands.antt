-- What a read gives is an image, whatever was called.
use Rattle.std.proofs.Common.{◌≡◌, ◌≤◌, ◌<◌, ◌⊎◌, ℕ, zero, suc, ◌+◌, ◌-◌, List, ◌∷◌, ◌++◌, length, take, drop, ap, ◌∙◌, arith, inl, inr, get_or, length-append, length-drop}
use Rattle.std.proofs.lemmas.List.{get_or-take, get_or-drop, length-take-le, get_or_append_left}
use Rattle.std.proofs.Math.Seq.{get_or-append_right}
use Rattle.frs_disk.specs.Crashes.{Crash, patch, wrote, cut_to, IsImage, IsTorn}

pub patch_length : (at : ℕ) (bytes xs : List ℕ) → at ≤ length xs → length (patch at bytes xs) ≡ at + length bytes + (length xs - (at + length bytes))
patch_length at bytes xs le = omega (arith, length-append (take at xs) (bytes ++ drop (at + length bytes) xs), length-append bytes (drop (at + length bytes) xs), length-take-le at xs le, length-drop (at + length bytes) xs)

patch_front : (at : ℕ) (bytes xs : List ℕ) (k : ℕ) → at ≤ length xs → k < at → get_or (patch at bytes xs) k 0 ≡ get_or xs k 0
patch_front at bytes xs k le lt =
    get_or_append_left (take at xs) (bytes ++ drop (at + length bytes) xs) 0 k (omega (arith, lt, length-take-le at xs le)) ∙ get_or-take at xs k 0 lt

patch_back : (at : ℕ) (bytes xs : List ℕ) (k : ℕ) → at ≤ length xs → at + length bytes ≤ k → get_or (patch at bytes xs) k 0 ≡ get_or xs k 0
patch_back at bytes xs k le over =
    let n : length (take at xs) ≡ at = length-take-le at xs le in
    let e : k - length (take at xs) - length bytes ≡ k - (at + length bytes) = omega (arith, n) in
    let f : at + length bytes + (k - (at + length bytes)) ≡ k = omega (arith, over) in
    get_or-append_right (take at xs) (bytes ++ drop (at + length bytes) xs) k 0 (omega (arith, n, over))
    ∙ get_or-append_right bytes (drop (at + length bytes) xs) (k - length (take at xs)) 0 (omega (arith, n, over))
    ∙ ap (λ i. get_or (drop (at + length bytes) xs) i 0) e
    ∙ get_or-drop (at + length bytes) xs (k - (at + length bytes)) 0
    ∙ ap (λ i. get_or xs i 0) f

pub side : (k at : ℕ) → (k < at) ⊎ (at ≤ k)
side k zero = inr (omega arith)
side zero (suc at) = inl (omega arith)
side (suc k) (suc at) = up (side k at)
  where
    up : (k < at) ⊎ (at ≤ k) → (suc k < suc at) ⊎ (suc at ≤ suc k)
    up (inl lt) = inl (omega (arith, lt))
    up (inr le) = inr (omega (arith, le))

pub wrote_stands : (at : ℕ) (bytes : List ℕ) (s : Crash) → at ≤ length s.seen → IsImage s s.seen → IsImage (wrote at bytes s) (wrote at bytes s).seen
wrote_stands at bytes s le stands = record {
  no_shorter = omega (arith, patch_length at bytes s.seen le, stands.no_shorter);
  no_longer = omega (arith, patch_length at bytes s.seen le, stands.no_longer);
  kept = λ k inside safe untorn. by_place k safe (λ t. untorn (inr t)) (side k at) (omega (arith, inside, patch_length at bytes s.seen le)) untorn;
}
  where
    by_place : (k : ℕ) → k < length s.safe → (IsTorn s.torn k → ⊥) → (k < at) ⊎ (at ≤ k) → k < at + length bytes + (length s.seen - (at + length bytes)) → (IsTorn ((at, length bytes) ∷ s.torn) k → ⊥)
        → get_or (patch at bytes s.seen) k 0 ≡ get_or s.safe k 0
    by_place k safe untorn (inl lt) inside torn = patch_front at bytes s.seen k le lt ∙ stands.kept k (omega (arith, lt, le)) safe untorn
    by_place k safe untorn (inr over) inside torn = behind (side k (at + length bytes))
      where
        behind : (k < at + length bytes) ⊎ (at + length bytes ≤ k) → get_or (patch at bytes s.seen) k 0 ≡ get_or s.safe k 0
        behind (inl lt) = absurd (torn (inl (over, lt)))
        behind (inr past) = patch_back at bytes s.seen k le past ∙ stands.kept k (omega (arith, past, inside)) safe untorn

pub cut_stands : (n : ℕ) (s : Crash) → n ≤ length s.seen → IsImage s s.seen → IsImage (cut_to n s) (cut_to n s).seen
cut_stands n s le stands = record {
  no_shorter = omega (arith, length-take-le n s.seen le, stands.no_shorter);
  no_longer = omega (arith, length-take-le n s.seen le, stands.no_longer);
  kept = λ k inside safe untorn. (let lt : k < n = omega (arith, inside, length-take-le n s.seen le) in get_or-take n s.seen k 0 lt ∙ stands.kept k (omega (arith, lt, le)) safe untorn);
}
