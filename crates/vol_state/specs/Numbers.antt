-- The numbers that a volume has given out.
use Rattle.std.specs.Prelude.{◌-◌, ◌^◌, ◌==◌, ◌&&◌, ◌||◌, nat_lt, not, max, ℕ, Bool, true, false, if◌then◌else◌, List, [], ◌∷◌, Option, Some, None}
use Rattle.frs_base.specs.declared.version.Uid.{Uid}
use Rattle.vol_state.specs.declared.object.Object.{Object}
use Rattle.vol_state.specs.declared.command.VolCmd.{VolCmd}
use Rattle.vol_state.specs.declared.command.VolCmd.TheVariants.{PutNew, PutOver, Mkdir, Move, Remove, Park, Erase, Make, Rewrite, Place}
use Rattle.vol_state.specs.State.{State}

-- the greatest number that f gives of an item, 0 where there is none
abbrev pub greatest : {T : Type 0} → (T → ℕ) → List T → ℕ
greatest f [] = 0
greatest f (x ∷ xs) = max (f x) (greatest f xs)

-- the greatest fid of an object or a journal record
unfoldable pub greatest_fid : State → ℕ
greatest_fid v = max (greatest (λ o. o.fid) v.objects) (greatest (λ r. r.fid) v.journal)

-- the version of a tag of the own database counts as a USN
abbrev pub own_version : ℕ → Option Uid → ℕ
own_version own None = 0
own_version own (Some tag) = if tag.db == own then tag.version else 0

-- the greatest USN of an object: its born USN, its last local one, its tag's
abbrev pub usn_in : ℕ → Object → ℕ
usn_in own o = max o.born (max o.last_local (own_version own o.tag))

-- the greatest USN of an object or a journal record
unfoldable pub greatest_usn : State → ℕ
greatest_usn v = max (greatest (usn_in v.own) v.objects) (greatest (λ r. r.usn) v.journal)

-- the command makes an object, and so gives out a fid
abbrev pub makes_object : VolCmd → Bool
makes_object (PutNew parent name bytes) = true
makes_object (PutOver fid bytes) = false
makes_object (Mkdir parent name) = true
makes_object (Move fid parent name) = false
makes_object (Remove fid) = false
makes_object (Park fid) = false
makes_object (Erase fid) = false
makes_object (Make uid kind bytes) = true
makes_object (Rewrite fid bytes) = false
makes_object (Place fid parent name) = false

-- the next USN isn't the last of all, and is above those that are in use
abbrev pub has_usn : State → Bool
has_usn v = nat_lt v.next_usn (2 ^ 64 - 1) && nat_lt (greatest_usn v) v.next_usn

-- likewise the next fid
abbrev pub has_fid : State → Bool
has_fid v = nat_lt v.next_fid (2 ^ 64 - 1) && nat_lt (greatest_fid v) v.next_fid

-- each number that the command would give out can be given out
abbrev pub has_numbers : VolCmd → State → Bool
has_numbers cmd v = has_usn v && (not (makes_object cmd) || has_fid v)
