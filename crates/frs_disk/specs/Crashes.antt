-- What a disk holds, and what a crash may leave of it.
use Rattle.std.specs.Prelude.{ℕ, ◌≡◌, ◌⊎◌, ◌+◌, ◌≤◌, ◌<◌, min, max, List, [], ◌∷◌, ◌++◌, length, take, drop, get_or}

-- what a read gives, what the last sync made sure of, the ranges written since as places and lengths, and the least and the greatest length since
pub record Crash : Type 0 where
  pub seen : List ℕ
  pub safe : List ℕ
  pub torn : List (ℕ × ℕ)
  pub least : ℕ
  pub greatest : ℕ

-- all of these bytes are on the disk
abbrev pub still : List ℕ → Crash
still xs = record { seen = xs; safe = xs; torn = []; least = length xs; greatest = length xs }

-- the bytes put over others from a place on
abbrev pub patch : ℕ → List ℕ → List ℕ → List ℕ
patch at bytes xs = take at xs ++ (bytes ++ drop (at + length bytes) xs)

-- bytes were written and not synced
abbrev pub wrote : ℕ → List ℕ → Crash → Crash
wrote at bytes s = record {
  seen = patch at bytes s.seen;
  safe = s.safe;
  torn = (at, length bytes) ∷ s.torn;
  least = s.least;
  greatest = max s.greatest (at + length bytes);
}

-- the disk was cut to this length and not synced
abbrev pub cut_to : ℕ → Crash → Crash
cut_to n s = record { seen = take n s.seen; safe = s.safe; torn = s.torn; least = min s.least n; greatest = s.greatest }

-- what a read gives was made sure of
abbrev pub synced : Crash → Crash
synced s = still s.seen

-- nothing was done, as where a sync stops
abbrev pub unchanged : Crash → Crash
unchanged s = s

-- what was not synced is lost: the bytes of the last sync are read again
abbrev pub lost : Crash → Crash
lost s = record s { seen = s.safe }

-- a place within a range that was written since the last sync
abbrev pub IsTorn : List (ℕ × ℕ) → ℕ → Type 0
IsTorn [] k = ⊥
IsTorn (range ∷ ranges) k = ((range.0 ≤ k) × (k < range.0 + range.1)) ⊎ IsTorn ranges k

-- a crash may leave these bytes: what was written since the last sync may read as any bytes, and so may what lies past the old end; the rest stays
pub record IsImage (s : Crash) (image : List ℕ) : Type 0 where
  pub no_shorter : s.least ≤ length image
  pub no_longer : length image ≤ s.greatest
  pub kept : (k : ℕ) → k < length image → k < length s.safe → (IsTorn s.torn k → ⊥) → get_or image k 0 ≡ get_or s.safe k 0

-- what a read gives is one of the images
abbrev pub Stands : Crash → Type 0
Stands s = IsImage s s.seen

-- a crash leaves what a read gives
abbrev pub IsStill : Crash → Type 0
IsStill s = s ≡ still s.seen

-- each image of this state is so
abbrev pub Leaves : (List ℕ → Type 0) → Crash → Type 0
Leaves Q s = (image : List ℕ) → IsImage s image → Q image

-- each image of the second state is one of the first, and what a read gives in it is an image
pub record Within (s t : Crash) : Type 0 where
  pub images : Leaves (IsImage s) t
  pub seen : IsImage t t.seen
