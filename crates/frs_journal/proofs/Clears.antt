-- A slot is emptied.
use Rattle.std.proofs.Common.{◌≡◌, ◌≤◌, ℕ, List, [], ◌∷◌, length, refl, sym, ap, ◌∙◌, subst, arith, inl, inr, Option, Some, None}
use Rattle.std.specs.Prelude.{IfSome}
use Rattle.frs_disk.specs.Crashes.{Crash, cut_to, IsStill, Leaves, still, synced, Within, wrote}
use Rattle.frs_disk.specs.Moments.{Goes, Now, pushed, seen_now, Stops, top}
use Rattle.frs_disk.proofs.Moments.{goes_map, goes_trans}
use Rattle.frs_disk.proofs.Images.{image_cut}
use Rattle.frs_journal.specs.Gates.{IsAtRest, IsCleared, Clearing, Has}

pub at_cut : (s : Crash) → IsStill s → Leaves (IsCleared s.seen) (cut_to 0 s)
at_cut s rest =
    let P : Crash → Type 0 = λ t. Leaves (IsCleared s.seen) (cut_to 0 t) in
    subst P (sym rest) (λ c image. inl (image_cut 0 s.seen c (omega arith) image).2)

at_byte : (xs : List ℕ) → Leaves (IsCleared xs) (wrote 0 (0 ∷ []) (still []))
at_byte xs c image = inr (omega (arith, image.no_longer))

pub clearing_cut : (old mid : Option (List Crash)) → Now IsStill old → Stops (cut_to 0) old mid → Clearing old mid
clearing_cut None mid rest stops = stops
clearing_cut (Some ss) mid rest stops =
    goes_map (Within (cut_to 0 (top ss))) (Leaves (IsCleared (seen_now ss))) (Some ss) mid (λ s within. λ c image. at_cut (top ss) rest c (within.images c image)) stops

pub clearing_byte : (old mid new : Option (List Crash)) → Now IsStill old → Stops (cut_to 0) old mid → mid ≡ pushed synced (pushed (cut_to 0) old)
    → Stops (wrote 0 (0 ∷ [])) mid new → Clearing old new
clearing_byte None mid new rest stops is on = let P : Option (List Crash) → Type 0 = λ o. Stops (wrote 0 (0 ∷ [])) o new in subst P is on
clearing_byte (Some ss) mid new rest stops is on =
    let Q : Crash → Type 0 = Leaves (IsCleared (seen_now ss)) in
    let P : Option (List Crash) → Type 0 = λ o. Stops (wrote 0 (0 ∷ [])) o new in
    let R : Option (List Crash) → Type 0 = λ o. Goes Q o new in
    goes_trans Q (Some ss) mid new (clearing_cut (Some ss) mid rest stops)
    (subst R (sym is) (goes_map (Within (wrote 0 (0 ∷ []) (still []))) Q (pushed synced (pushed (cut_to 0) (Some ss))) new
    (λ s within. λ c image. at_byte (seen_now ss) c (within.images c image)) (subst P is on)))

pub cleared : (old mid new : Option (List Crash)) → mid ≡ pushed synced (pushed (cut_to 0) old) → new ≡ pushed synced (pushed (wrote 0 (0 ∷ [])) mid) → Has (0 ∷ []) new
cleared None mid new is on = let P : Option (List Crash) → Type 0 = λ o. Has (0 ∷ []) o in subst P (sym (on ∙ ap (λ o. pushed synced (pushed (wrote 0 (0 ∷ [])) o)) is)) tt
cleared (Some ss) mid new is on = let P : Option (List Crash) → Type 0 = λ o. Has (0 ∷ []) o in subst P (sym (on ∙ ap (λ o. pushed synced (pushed (wrote 0 (0 ∷ [])) o)) is)) refl

pub nothing_within : (o : Option (List Crash)) → IfSome o (λ ss. 0 ≤ length (seen_now ss))
nothing_within None = tt
nothing_within (Some ss) = omega arith

pub has_rest : (o : Option (List Crash)) → Has (0 ∷ []) o → Now (IsAtRest 0) o
has_rest None has = tt
has_rest (Some ss) has = record { front = []; closing = 0; closed = λ h. absurd (omega (arith, h)); state = has; place = refl }
