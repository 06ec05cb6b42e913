-- A new slot is put in the place of an older one.
use Rattle.std.proofs.Common.{◌⊎◌, ℕ, List, [], ◌∷◌, refl, sym, subst, inl, inr, Option, Some, None}
use Rattle.frs_disk.specs.Crashes.{Crash, Leaves}
use Rattle.frs_disk.specs.Moments.{Goes, seen_now}
use Rattle.frs_disk.proofs.Moments.{goes_map, goes_trans}
use Rattle.frs_journal.specs.Gates.{Gated, IsCleared, Clearing, Renewing, Appending, Appended, Has}

pub renewing_clear : (body : List ℕ) (old mid : Option (List Crash)) → Clearing old mid → Renewing body old mid
renewing_clear body None mid going = going
renewing_clear body (Some ss) mid going =
    goes_map (Leaves (IsCleared (seen_now ss))) (Leaves (λ c. IsCleared (seen_now ss) c ⊎ Gated [] body c)) (Some ss) mid (λ s leaves. λ c image. inl (leaves c image)) going

pub renewing_fill : (body : List ℕ) (old mid new : Option (List Crash)) → Clearing old mid → Appending 0 body mid new → Renewing body old new
renewing_fill body None mid new going fills = let P : Option (List Crash) → Type 0 = λ o. Appending 0 body o new in subst P going fills
renewing_fill body (Some ss) mid new going fills =
    goes_trans Q (Some ss) mid new (renewing_clear body (Some ss) mid going) (by_told mid fills)
  where
    Q : Crash → Type 0
    Q = Leaves (λ c. IsCleared (seen_now ss) c ⊎ Gated [] body c)

    by_told : (o : Option (List Crash)) → Appending 0 body o new → Goes Q o new
    by_told None fills = fills
    by_told (Some ts) fills = goes_map (Leaves (Gated [] body)) Q (Some ts) new (λ s leaves. λ c image. inr (leaves c image)) fills

pub renewed : (body : List ℕ) (mid new : Option (List Crash)) → Appended 0 body mid new → Has (1 ∷ body) new
renewed body None new done = let P : Option (List Crash) → Type 0 = λ o. Has (1 ∷ body) o in subst P (sym done) tt
renewed body (Some ss) new done = let P : Option (List Crash) → Type 0 = λ o. Has (1 ∷ body) o in subst P (sym done.1) refl
