-- What an armed call leaves of a disk in memory is what a stop inside it may leave.
use Rattle.std.proofs.Common.{◌≡◌, List, [], ◌∷◌, Bool, true, false, ap, subst, Some}
use Rattle.frs_disk.specs.Crashes.{Crash, Stands, Within, lost, synced, unchanged}
use Rattle.frs_disk.specs.Moments.{Stops, push, top}
use Rattle.frs_disk.specs.Changes.{lost_if}
use Rattle.frs_disk.proofs.Moments.{within_synced}

within_lost : (is_lost : Bool) (s : Crash) → Stands (lost_if is_lost s) → Within s (lost_if is_lost s)
within_lost true s stands = record { images = λ c image. record { no_shorter = image.no_shorter; no_longer = image.no_longer; kept = image.kept }; seen = stands }
within_lost false s stands = record { images = λ c image. image; seen = stands }

-- a write or a cut
pub stops_lost : (change : Crash → Crash) (is_lost : Bool) (ss new : List Crash) → new ≡ push (λ s. lost_if is_lost (change s)) ss → Stands (top new)
    → Stops change (Some ss) (Some new)
stops_lost change is_lost ss new is stands =
    let P : List Crash → Type 0 = λ l. Stands (top l) in
    (lost_if is_lost (change (top ss)) ∷ [], ap (λ (l : List Crash). Some l) is, (within_lost is_lost (change (top ss)) (subst P is stands), tt))

-- a sync that was done
pub stops_synced : (ss new : List Crash) → new ≡ push synced ss → Stands (top ss) → Stops unchanged (Some ss) (Some new)
stops_synced ss new is stands = (synced (top ss) ∷ [], ap (λ (l : List Crash). Some l) is, (within_synced (top ss) stands, tt))

-- one that was lost
pub stops_losing : (ss new : List Crash) → new ≡ push lost ss → Stands (top new) → Stops unchanged (Some ss) (Some new)
stops_losing ss new is stands =
    let P : List Crash → Type 0 = λ l. Stands (top l) in
    (lost (top ss) ∷ [], ap (λ (l : List Crash). Some l) is, (within_lost true (top ss) (subst P is stands), tt))
