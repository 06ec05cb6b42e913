-- How much is due for a file before its member is drained.
use Rattle.std.specs.Prelude.{◌≡◌, ◌⊎◌, ◌+◌, ◌<◌, ◌≤◌, ◌&&◌, not, ℕ, Bool, true, false, if◌then◌else◌, Option, Some, List}
use Rattle.frs_base.specs.declared.sum.Sum.{Sum}
use Rattle.frs_base.specs.declared.version.Uid.{Uid}
use Rattle.win_order.specs.declared.update.Update.{Update}
use Rattle.vol_state.specs.declared.object.Object.{Object}
use Rattle.vol_state.specs.State.{uid_of}
use Rattle.vol_state.specs.Maps.{Maps}
use Rattle.vol_state.specs.Tables.{IsAt}
use Rattle.name_rules.specs.Recorded.{parent_uid}
use Rattle.name_rules.specs.Tree.{IsShown, is_file}

-- one where it holds
abbrev pub one : Bool → ℕ
one b = if b then 1 else 0

-- of a file: its record is shown, is a tombstone, is a present file; its object is there, has a place, stands at exactly the record's place, has another sum; a content is staged
pub record View : Type 0 where
  pub shown : Bool
  pub tombstone : Bool
  pub file : Bool
  pub object : Bool
  pub placed : Bool
  pub exact : Bool
  pub differs : Bool
  pub staged : Bool

-- how many of six things hold: placed where it isn't shown; shown elsewhere or without an object there; shown without object; an object of a tombstone; another sum; staged
abbrev pub due : View → ℕ
due v =
    one (v.object && (v.placed && not (v.shown && v.exact)))
    + one (v.shown && not (v.object && (v.placed && v.exact)))
    + one (v.shown && not v.object)
    + one (v.object && v.tombstone)
    + one (v.object && (v.file && v.differs))
    + one v.staged

-- a test that holds where a fact does
abbrev pub Tells : Bool → Type 0 → Type 0
Tells b P = ((b ≡ true) × P) ⊎ ((b ≡ false) × (P → ⊥))

-- the object of a file
abbrev pub IsObject : ℕ → Maps → Uid → ℕ → Object → Type 0
IsObject own m uid fid o = IsAt m fid o × (uid_of own o ≡ uid)

-- what a file's view sees of a member: its records, its volume, what is staged
pub record Sees (Records : Update → Type 0) (own : ℕ) (m : Maps) (contents : Uid → Option Sum) (uid : Uid) (v : View) : Type 0 where
  pub shown : Tells v.shown ((u : Update) × IsShown Records u × (u.uid ≡ uid))
  pub tombstone : Tells v.tombstone ((u : Update) × Records u × (u.uid ≡ uid) × (u.present ≡ false))
  pub file : Tells v.file ((u : Update) × Records u × (u.uid ≡ uid) × (is_file u ≡ true))
  pub object : Tells v.object ((fid : ℕ) × (o : Object) × IsObject own m uid fid o)
  pub placed : Tells v.placed ((fid : ℕ) × (o : Object) × (p : ℕ × List ℕ) × IsObject own m uid fid o × (o.place ≡ Some p))
  pub exact : Tells v.exact ((fid : ℕ) × (o : Object) × (p : ℕ × List ℕ) × (u : Update) × IsObject own m uid fid o × (o.place ≡ Some p)
      × Records u × (u.uid ≡ uid) × (u.parent ≡ parent_uid own m p.0) × (u.name ≡ p.1))
  pub differs : Tells v.differs ((fid : ℕ) × (o : Object) × (u : Update) × IsObject own m uid fid o × Records u × (u.uid ≡ uid) × (o.sum ≡ u.hash → ⊥))
  pub staged : Tells v.staged ((sum : Sum) × (contents uid ≡ Some sum))

-- what is due falls for the files of a step, and rises for none
pub record Lowers (Views : Uid → View → Type 0) (After : Uid → View → Type 0) (own : Uid → Bool) : Type 0 where
  pub no_more : (uid : Uid) (v v' : View) → Views uid v → After uid v' → due v' ≤ due v
  pub less : (uid : Uid) (v v' : View) → own uid ≡ true → Views uid v → After uid v' → due v' < due v
