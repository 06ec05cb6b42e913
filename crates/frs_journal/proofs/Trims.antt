-- A slot is settled, and cut behind its first gate that isn't 1.
use Rattle.std.proofs.Common.{◌≡◌, ◌≤◌, ◌⊎◌, ℕ, List, [], ◌∷◌, length, sym, subst, inl, inr, Option, Some, None}
use Rattle.std.specs.Prelude.{IfSome}
use Rattle.frs_disk.specs.Crashes.{Crash, cut_to, IsImage, IsStill, Leaves, synced, unchanged, Within}
use Rattle.frs_disk.specs.Moments.{Now, pushed, seen_now, Stops, top}
use Rattle.frs_disk.proofs.Moments.{goes_map, within_synced}
use Rattle.frs_disk.proofs.Images.{image_cut}
use Rattle.frs_journal.specs.Gates.{Trimmed, Trimming, HasCut}

pub trimming : (end : ℕ) (old new : Option (List Crash)) → Now IsStill old → IfSome old (λ ss. end ≤ length (seen_now ss)) → Stops (cut_to end) old new → Trimming end old new
trimming end None new rest within stops = stops
trimming end (Some ss) new rest within stops =
    let P : Crash → Type 0 = λ t. Leaves (Trimmed end (seen_now ss)) (cut_to end t) in
    let at : Leaves (Trimmed end (seen_now ss)) (cut_to end (top ss)) = subst P (sym rest) (λ c image.
    (let h = image_cut end (seen_now ss) c within image in record { no_shorter = h.0; no_longer = h.1; front = h.2 })) in
    goes_map (Within (cut_to end (top ss))) (Leaves (Trimmed end (seen_now ss))) (Some ss) new (λ s w. λ c image. at c (w.images c image)) stops

pub has_cut : (end : ℕ) (old new : Option (List Crash)) → new ≡ pushed synced (pushed (cut_to end) old) → HasCut end old new
has_cut end None new is = is
has_cut end (Some ss) new is = (cut_to end (top ss) ∷ ss, is)

pub settled : (old new : Option (List Crash)) → Now (λ s. IsImage s s.seen) old → new ≡ pushed synced old → Stops unchanged old new
settled None new stands is = is
settled (Some ss) new stands is = (synced (top ss) ∷ [], is, (within_synced (top ss) stands, tt))

pub settled_or_not : (old new : Option (List Crash)) → Now (λ s. IsImage s s.seen) old → (new ≡ pushed synced old) ⊎ Stops unchanged old new → Stops unchanged old new
settled_or_not old new stands (inl is) = settled old new stands is
settled_or_not old new stands (inr stops) = stops

pub stops_same : (old new : Option (List Crash)) → new ≡ old → Stops unchanged old new
stops_same None new is = is
stops_same (Some ss) new is = ([], is, tt)

-- a call that moves nothing before a settle, and one behind it
pub stops_around : (old a b new : Option (List Crash)) → a ≡ old → Stops unchanged a b → new ≡ b → Stops unchanged old new
stops_around old a b new first moves last =
    let P : Option (List Crash) → Type 0 = λ o. Stops unchanged o new in
    let Q : Option (List Crash) → Type 0 = λ o. Stops unchanged a o in
    subst P first (subst Q (sym last) moves)
