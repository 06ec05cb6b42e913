-- The states that a disk went through, the newest first, where it tells them.
use Rattle.std.specs.Prelude.{ℕ, ◌≡◌, ◌⊎◌, List, [], ◌∷◌, ◌++◌, Option, Some, None}
use Rattle.std.specs.Option.{option_map}
use Rattle.frs_disk.specs.Crashes.{Crash, still, IsImage, Within}

-- the newest state
abbrev pub top : List Crash → Crash
top [] = still []
top (s ∷ ss) = s

-- what a read gives now
abbrev pub seen_now : List Crash → List ℕ
seen_now ss = (top ss).seen

-- a change made one state more
abbrev pub push : (Crash → Crash) → List Crash → List Crash
push change ss = change (top ss) ∷ ss

-- the same where the disk tells
abbrev pub pushed : (Crash → Crash) → Option (List Crash) → Option (List Crash)
pushed change told = option_map (push change) told

-- it begins anew with what a read gives, all of it made sure of
abbrev pub reread : Option (List Crash) → Option (List Crash)
reread told = option_map (λ ss. still (seen_now ss) ∷ []) told

-- the disk tells its states
abbrev pub Tells : Option (List Crash) → Type 0
Tells None = ⊥
Tells (Some ss) = Unit

-- the newest state is so, where the disk tells
abbrev pub Now : (Crash → Type 0) → Option (List Crash) → Type 0
Now P None = Unit
Now P (Some ss) = P (top ss)

-- each of these states is so
abbrev pub Each : (Crash → Type 0) → List Crash → Type 0
Each P [] = Unit
Each P (s ∷ ss) = P s × Each P ss

-- time went on, and each state that came is so
abbrev pub Goes : (Crash → Type 0) → Option (List Crash) → Option (List Crash) → Type 0
Goes P None new = new ≡ None
Goes P (Some ss) new = (added : List Crash) × (new ≡ Some (added ++ ss)) × Each P added

-- the newest of the old states and each that came is so
abbrev pub Since : (Crash → Type 0) → Option (List Crash) → Option (List Crash) → Type 0
Since P old new = Now P old × Goes P old new

-- time went on as inside one call: each image of a state that came is an image of what the change makes of the newest state
abbrev pub Stops : (Crash → Crash) → Option (List Crash) → Option (List Crash) → Type 0
Stops change None new = new ≡ None
Stops change (Some ss) new = Goes (Within (change (top ss))) (Some ss) new

-- the newest state
abbrev pub IsNewest : Option (List Crash) → Crash → Type 0
IsNewest None s = ⊥
IsNewest (Some ss) s = s ≡ top ss

-- a state at some moment since: the newest of the old ones, one that came, or the newest now
abbrev pub IsMoment : Option (List Crash) → Option (List Crash) → Crash → Type 0
IsMoment None new s = ⊥
IsMoment (Some ss) new s =
    (s ≡ top ss) ⊎ (((later : List Crash) × (sooner : List Crash) × (new ≡ Some ((later ++ s ∷ sooner) ++ ss))) ⊎ IsNewest new s)

-- a crash now may leave this
abbrev pub MayLeave : Option (List Crash) → List ℕ → Type 0
MayLeave None image = ⊥
MayLeave (Some ss) image = IsImage (top ss) image

-- a crash at some moment since might have left this
abbrev pub MightLeave : Option (List Crash) → Option (List Crash) → List ℕ → Type 0
MightLeave old new image = (s : Crash) × IsMoment old new s × IsImage s image
