-- The updates that a set of versions covers, and the winners among them.
use Rattle.std.specs.Prelude.{◌≡◌, ◌≢◌, ◌||◌, Bool, true, false, List, MatchOption, Option}
use Rattle.frs_base.specs.Options.{In}
use Rattle.frs_base.specs.Versions.{same_gvsn}
use Rattle.frs_base.specs.declared.version.Gvsn.{Gvsn}
use Rattle.frs_base.specs.declared.version.Uid.{Uid}
use Rattle.win_order.specs.Order.{Beats, key_lt, key_of}
use Rattle.win_order.specs.declared.update.Update.{Update}

-- ---- sets of versions

-- a finite set of versions, as a test
abbrev pub Versions : Type 0
Versions = Gvsn → Bool

-- the set with one version more
abbrev pub plus : Versions → Gvsn → Versions
plus known g h = same_gvsn g h || known h

-- the versions of either set
abbrev pub both : Versions → Versions → Versions
both known other h = other h || known h

-- ---- winners

-- Covered(All, K): the update was recorded, and its version is in the set
abbrev pub Covered : List Update → Versions → Update → Type 0
Covered all known u = In u all × (known u.gvsn ≡ true)

-- the update is among these, and none of them beats it
pub record IsWinner (Among : Update → Type 0) (u : Update) : Type 0 where
  pub among : Among u
  pub unbeaten : (v : Update) → Among v → Beats v u → ⊥

-- a member's records: Winners(Covered(All, K))
abbrev pub IsRecord : List Update → Versions → Update → Type 0
IsRecord all known = IsWinner (Covered all known)

-- one of these is of the file
abbrev pub Has : (Update → Type 0) → Uid → Type 0
Has These uid = (u : Update) × These u × (u.uid ≡ uid)

-- the winner of a file among these, or that none of them is of the file
abbrev pub IsHeld : (Update → Type 0) → Uid → Option Update → Type 0
IsHeld Among uid held = MatchOption held ((v : Update) → Among v → v.uid ≢ uid) (λ u. IsWinner Among u × (u.uid ≡ uid))

-- the update beats the winner of its file among these, or there is none
abbrev pub IsBetter : (Update → Type 0) → Update → Type 0
IsBetter Among u = (held : Option Update) × IsHeld Among u.uid held × MatchOption held (Unit {0}) (λ r. Beats u r)

-- one of these, of the update's file, has no smaller key
abbrev pub IsHeldOrBeaten : (Update → Type 0) → Update → Type 0
IsHeldOrBeaten These u = (r : Update) × These r × (r.uid ≡ u.uid) × (key_lt (key_of r) (key_of u) ≡ false)
