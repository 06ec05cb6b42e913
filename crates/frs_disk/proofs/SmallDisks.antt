-- What a crash may leave of small disks, computed.
use Rattle.std.proofs.Common.{◌≡◌, ◌<◌, ◌⊎◌, ℕ, zero, suc, List, [], ◌∷◌, get_or, refl, sym, subst, arith, inl, inr}
use Rattle.frs_disk.specs.Crashes.{Crash, IsImage, IsTorn, cut_to, still, wrote}
use Rattle.frs_disk.proofs.Images.{after_torn, before_torn}
use Rattle.frs_disk.proofs.Moments.{still_stands}

abbrev written : Crash
written = wrote 1 (7 ∷ []) (still (1 ∷ 2 ∷ 3 ∷ []))

pub written_leaves : (c : List ℕ) → IsImage (wrote 1 (7 ∷ []) (still (1 ∷ 2 ∷ 3 ∷ []))) c → (x : ℕ) × (c ≡ 1 ∷ x ∷ 3 ∷ [])
written_leaves [] image = absurd (omega (arith, image.no_shorter))
written_leaves (a ∷ []) image = absurd (omega (arith, image.no_shorter))
written_leaves (a ∷ b ∷ []) image = absurd (omega (arith, image.no_shorter))
written_leaves (a ∷ b ∷ d ∷ []) image =
    let first : a ≡ 1 = image.kept 0 (omega arith) (omega arith) (before_torn 1 1 0 (omega arith)) in
    let third : d ≡ 3 = image.kept 2 (omega arith) (omega arith) (after_torn 1 1 2 (omega arith)) in
    (b, λ i. first i ∷ b ∷ third i ∷ [])
written_leaves (a ∷ b ∷ d ∷ e ∷ r) image = absurd (omega (arith, image.no_longer))

pub written_may : (c : List ℕ) → (x : ℕ) × (c ≡ 1 ∷ x ∷ 3 ∷ []) → IsImage (wrote 1 (7 ∷ []) (still (1 ∷ 2 ∷ 3 ∷ []))) c
written_may c (x, is) = let P : List ℕ → Type 0 = λ l. IsImage written l in subst P (sym is) (record { no_shorter = omega arith; no_longer = omega arith; kept = kept })
  where
    kept : (k : ℕ) → k < 3 → k < 3 → (IsTorn ((1, 1) ∷ []) k → ⊥) → get_or (1 ∷ x ∷ 3 ∷ []) k 0 ≡ get_or (1 ∷ 2 ∷ 3 ∷ []) k 0
    kept zero inside safe untorn = refl
    kept (suc zero) inside safe untorn = absurd (untorn (inl (omega arith, omega arith)))
    kept (suc (suc zero)) inside safe untorn = refl
    kept (suc (suc (suc k))) inside safe untorn = absurd (omega (arith, inside))

abbrev grown : Crash
grown = wrote 1 (7 ∷ []) (still (1 ∷ []))

pub grown_leaves : (c : List ℕ) → IsImage (wrote 1 (7 ∷ []) (still (1 ∷ []))) c → (c ≡ 1 ∷ []) ⊎ ((x : ℕ) × (c ≡ 1 ∷ x ∷ []))
grown_leaves [] image = absurd (omega (arith, image.no_shorter))
grown_leaves (a ∷ []) image =
    let first : a ≡ 1 = image.kept 0 (omega arith) (omega arith) (before_torn 1 1 0 (omega arith)) in inl (λ i. first i ∷ [])
grown_leaves (a ∷ b ∷ []) image =
    let first : a ≡ 1 = image.kept 0 (omega arith) (omega arith) (before_torn 1 1 0 (omega arith)) in inr (b, λ i. first i ∷ b ∷ [])
grown_leaves (a ∷ b ∷ d ∷ r) image = absurd (omega (arith, image.no_longer))

pub grown_may : (c : List ℕ) → (c ≡ 1 ∷ []) ⊎ ((x : ℕ) × (c ≡ 1 ∷ x ∷ [])) → IsImage (wrote 1 (7 ∷ []) (still (1 ∷ []))) c
grown_may c (inl is) = let P : List ℕ → Type 0 = λ l. IsImage grown l in subst P (sym is) (record { no_shorter = omega arith; no_longer = omega arith; kept = λ k inside safe untorn. refl })
grown_may c (inr (x, is)) = let P : List ℕ → Type 0 = λ l. IsImage grown l in subst P (sym is) (record { no_shorter = omega arith; no_longer = omega arith; kept = kept })
  where
    kept : (k : ℕ) → k < 2 → k < 1 → (IsTorn ((1, 1) ∷ []) k → ⊥) → get_or (1 ∷ x ∷ []) k 0 ≡ get_or (1 ∷ []) k 0
    kept zero inside safe untorn = refl
    kept (suc k) inside safe untorn = absurd (omega (arith, safe))

abbrev one : List ℕ
one = 1 ∷ []

abbrev two : List ℕ
two = 1 ∷ 2 ∷ []

abbrev three : List ℕ
three = 1 ∷ 2 ∷ 3 ∷ []

abbrev shortened : Crash
shortened = cut_to 1 (still (1 ∷ 2 ∷ 3 ∷ []))

pub cut_leaves : (c : List ℕ) → IsImage (cut_to 1 (still (1 ∷ 2 ∷ 3 ∷ []))) c → (c ≡ 1 ∷ []) ⊎ ((c ≡ 1 ∷ 2 ∷ []) ⊎ (c ≡ 1 ∷ 2 ∷ 3 ∷ []))
cut_leaves [] image = absurd (omega (arith, image.no_shorter))
cut_leaves (a ∷ []) image = let first : a ≡ 1 = image.kept 0 (omega arith) (omega arith) (λ t. t) in inl (λ i. first i ∷ [])
cut_leaves (a ∷ b ∷ []) image =
    let first : a ≡ 1 = image.kept 0 (omega arith) (omega arith) (λ t. t) in
    let second : b ≡ 2 = image.kept 1 (omega arith) (omega arith) (λ t. t) in
    inr (inl (λ i. first i ∷ second i ∷ []))
cut_leaves (a ∷ b ∷ d ∷ []) image =
    let first : a ≡ 1 = image.kept 0 (omega arith) (omega arith) (λ t. t) in
    let second : b ≡ 2 = image.kept 1 (omega arith) (omega arith) (λ t. t) in
    let third : d ≡ 3 = image.kept 2 (omega arith) (omega arith) (λ t. t) in
    inr (inr (λ i. first i ∷ second i ∷ third i ∷ []))
cut_leaves (a ∷ b ∷ d ∷ e ∷ r) image = absurd (omega (arith, image.no_longer))

pub cut_may : (c : List ℕ) → (c ≡ 1 ∷ []) ⊎ ((c ≡ 1 ∷ 2 ∷ []) ⊎ (c ≡ 1 ∷ 2 ∷ 3 ∷ [])) → IsImage (cut_to 1 (still (1 ∷ 2 ∷ 3 ∷ []))) c
cut_may c (inl is) = let P : List ℕ → Type 0 = λ l. IsImage shortened l in subst P (sym is) (record { no_shorter = omega arith; no_longer = omega arith; kept = kept })
  where
    kept : (k : ℕ) → k < 1 → k < 3 → (IsTorn [] k → ⊥) → get_or one k 0 ≡ get_or three k 0
    kept zero inside safe untorn = refl
    kept (suc k) inside safe untorn = absurd (omega (arith, inside))
cut_may c (inr (inl is)) = let P : List ℕ → Type 0 = λ l. IsImage shortened l in subst P (sym is) (record { no_shorter = omega arith; no_longer = omega arith; kept = kept })
  where
    kept : (k : ℕ) → k < 2 → k < 3 → (IsTorn [] k → ⊥) → get_or two k 0 ≡ get_or three k 0
    kept zero inside safe untorn = refl
    kept (suc zero) inside safe untorn = refl
    kept (suc (suc k)) inside safe untorn = absurd (omega (arith, inside))
cut_may c (inr (inr is)) = let P : List ℕ → Type 0 = λ l. IsImage shortened l in subst P (sym is) (record { no_shorter = omega arith; no_longer = omega arith; kept = λ k inside safe untorn. refl })

pub synced_may : (c : List ℕ) → c ≡ 1 ∷ 7 ∷ 3 ∷ [] → IsImage (still (1 ∷ 7 ∷ 3 ∷ [])) c
synced_may c is = let P : List ℕ → Type 0 = λ l. IsImage (still (1 ∷ 7 ∷ 3 ∷ [])) l in subst P (sym is) (still_stands (1 ∷ 7 ∷ 3 ∷ []))
