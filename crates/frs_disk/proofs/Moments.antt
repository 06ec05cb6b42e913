-- How time goes on.
use Rattle.std.proofs.Common.{◌≡◌, ◌<◌, ◌⊎◌, ℕ, suc, List, [], ◌∷◌, ◌++◌, length, refl, sym, ap, ◌∙◌, subst, arith, inl, inr, append_assoc, Option, Some, None, get_or}
use Rattle.std.specs.Prelude.{Result, Ok, Err, OnOk, OnErr}
use Rattle.frs_disk.specs.Crashes.{Crash, still, synced, unchanged, IsImage, Within}
use Rattle.frs_disk.specs.Moments.{top, pushed, Now, Each, Goes, Stops}

pub same_by_index : (xs ys : List ℕ) → length xs ≡ length ys → ((k : ℕ) → k < length xs → get_or xs k 0 ≡ get_or ys k 0) → xs ≡ ys
same_by_index [] [] len each = refl
same_by_index [] (y ∷ ys) len each = absurd (omega (arith, len))
same_by_index (x ∷ xs) [] len each = absurd (omega (arith, len))
same_by_index (x ∷ xs) (y ∷ ys) len each =
    let head : x ≡ y = each 0 (omega arith) in
    let tail : xs ≡ ys = same_by_index xs ys (omega (arith, len)) (λ k h. each (suc k) (omega (arith, h))) in
    λ i. head i ∷ tail i

-- once it is synced, a crash leaves what a read gives
pub only_still : (xs c : List ℕ) → IsImage (still xs) c → c ≡ xs
only_still xs c image =
    let len : length c ≡ length xs = omega (arith, image.no_shorter, image.no_longer) in
    same_by_index c xs len (λ k h. image.kept k h (omega (arith, len, h)) (λ torn. torn))

pub still_stands : (xs : List ℕ) → IsImage (still xs) xs
still_stands xs = record { no_shorter = omega arith; no_longer = omega arith; kept = λ k h i torn. refl }

pub within_self : (s : Crash) → IsImage s s.seen → Within s s
within_self s stands = record { images = λ c image. image; seen = stands }

pub within_synced : (s : Crash) → IsImage s s.seen → Within s (synced s)
within_synced s stands = record {
  images = λ c image. (let P : List ℕ → Type 0 = λ x. IsImage s x in subst P (sym (only_still s.seen c image)) stands);
  seen = still_stands s.seen;
}

pub within_trans : (s t u : Crash) → Within s t → Within t u → Within s u
within_trans s t u st tu = record { images = λ c image. st.images c (tu.images c image); seen = tu.seen }

pub each_append : (P : Crash → Type 0) (xs ys : List Crash) → Each P xs → Each P ys → Each P (xs ++ ys)
each_append P [] ys hx hy = hy
each_append P (x ∷ xs) ys hx hy = (hx.0, each_append P xs ys hx.1 hy)

pub each_map : (P Q : Crash → Type 0) (xs : List Crash) → ((s : Crash) → P s → Q s) → Each P xs → Each Q xs
each_map P Q [] f h = tt
each_map P Q (x ∷ xs) f h = (f x h.0, each_map P Q xs f h.1)

pub goes_map : (P Q : Crash → Type 0) (a b : Option (List Crash)) → ((s : Crash) → P s → Q s) → Goes P a b → Goes Q a b
goes_map P Q None b f h = h
goes_map P Q (Some ss) b f h = (h.0, h.1, each_map P Q h.0 f h.2)

pub goes_none : (P : Crash → Type 0) (a b : Option (List Crash)) → b ≡ a → Goes P a b
goes_none P None b e = e
goes_none P (Some ss) b e = ([], e, tt)

pub goes_trans : (P : Crash → Type 0) (a b c : Option (List Crash)) → Goes P a b → Goes P b c → Goes P a c
goes_trans P None b c ab bc = let R : Option (List Crash) → Type 0 = λ o. Goes P o c in subst R ab bc
goes_trans P (Some ss) b c ab bc =
    let R : Option (List Crash) → Type 0 = λ o. Goes P o c in
    let on : Goes P (Some (ab.0 ++ ss)) c = subst R ab.1 bc in
    (on.0 ++ ab.0, on.1 ∙ ap Some (sym (append_assoc on.0 ab.0 ss)), each_append P on.0 ab.0 on.2 ab.2)

-- a call that was done, whose new state stands
pub stops_push : (change : Crash → Crash) (old new : Option (List Crash)) → Now (λ s. IsImage s s.seen) new → new ≡ pushed change old → Stops change old new
stops_push change None new stands is = is
stops_push change (Some ss) new stands is =
    let R : Option (List Crash) → Type 0 = λ o. Now (λ s. IsImage s s.seen) o in
    let here : IsImage (change (top ss)) (change (top ss)).seen = subst R is stands in
    (change (top ss) ∷ [], is, (within_self (change (top ss)) here, tt))

-- a change and a sync
pub stops_sync : (change : Crash → Crash) (old mid new : Option (List Crash)) → Now (λ s. IsImage s s.seen) mid → mid ≡ pushed change old
    → (new ≡ pushed synced mid) ⊎ Stops unchanged mid new → Stops change old new
stops_sync change None mid new stands is (inl done) = done ∙ ap (pushed synced) is
stops_sync change None mid new stands is (inr failed) = let R : Option (List Crash) → Type 0 = λ o. Stops unchanged o new in subst R is failed
stops_sync change (Some ss) mid new stands is (inl done) =
    let R : Option (List Crash) → Type 0 = λ o. Now (λ s. IsImage s s.seen) o in
    let here : IsImage (change (top ss)) (change (top ss)).seen = subst R is stands in
    let s : Crash = change (top ss) in
    (synced s ∷ s ∷ [], done ∙ ap (pushed synced) is, (within_synced s here, (within_self s here, tt)))
stops_sync change (Some ss) mid new stands is (inr failed) =
    let R : Option (List Crash) → Type 0 = λ o. Now (λ s. IsImage s s.seen) o in
    let here : IsImage (change (top ss)) (change (top ss)).seen = subst R is stands in
    let S : Option (List Crash) → Type 0 = λ o. Stops unchanged o new in
    let on : Goes (Within (change (top ss))) (Some (change (top ss) ∷ ss)) new = subst S is failed in
    let first : Goes (Within (change (top ss))) (Some ss) (Some (change (top ss) ∷ ss)) = (change (top ss) ∷ [], refl, (within_self (change (top ss)) here, tt)) in
    goes_trans (Within (change (top ss))) (Some ss) (Some (change (top ss) ∷ ss)) new first on

pub by_result : {T E A B : Type 0} (r : Result T E) → OnOk r A → OnErr r B → A ⊎ B
by_result (Ok x) a b = inl a
by_result (Err e) a b = inr b
