-- Facts of every volume, and of those that began fresh, which every step keeps.
use Rattle.std.specs.Prelude.{⊤, ◌≡◌, ◌<◌, ℕ, [], Some}
use Rattle.frs_base.specs.declared.kind.Kind.TheVariants.{Directory}
use Rattle.frs_base.specs.declared.version.Uid.{Uid}
use Rattle.vol_state.specs.declared.command.VolCmd.{VolCmd}
use Rattle.vol_state.specs.declared.command.VolCmd.TheVariants.{PutNew, PutOver, Mkdir, Move, Remove, Park, Erase, Make, Rewrite, Place}
use Rattle.vol_state.specs.declared.object.Object.{Object}
use Rattle.vol_state.specs.Places.{object_at}
use Rattle.vol_state.specs.State.{State}
use Rattle.vol_state.specs.Sums.{content_sum}
use Rattle.vol_state.specs.Valid.{IsVolume}
use Rattle.vol_state.specs.Numbers.{greatest_fid, greatest_usn}
use Rattle.vol_state.specs.Journal.{IsNumbered}
use Rattle.vol_state.specs.Conditions.{step}

-- each object has the sum of its contents, and a directory has none
abbrev pub ObjectsAreSummed : Type 0
ObjectsAreSummed = (v : State) → IsVolume v → (fid : ℕ) (o : Object) → object_at v.objects fid ≡ Some o → (o.sum ≡ content_sum o.kind o.bytes) × (o.kind ≡ Directory → o.bytes ≡ [])

-- USNs that run from 9 without a gap go on so
abbrev pub KeepsNumbering : Type 0
KeepsNumbering = (cmd : VolCmd) (v : State) → IsNumbered v → IsNumbered (step cmd v)

-- the next numbers are above all that are in use
pub record AreFree (v : State) : Type 0 where
  pub fid : greatest_fid v < v.next_fid
  pub usn : greatest_usn v < v.next_usn

-- a UID of the own database is born
abbrev pub IsBorn : State → Uid → Type 0
IsBorn v uid = uid.db ≡ v.own → uid.version < v.next_usn

-- the command makes no object whose UID is still to be born
abbrev pub IsInTime : VolCmd → State → Type 0
IsInTime (PutNew parent name bytes) v = ⊤
IsInTime (PutOver fid bytes) v = ⊤
IsInTime (Mkdir parent name) v = ⊤
IsInTime (Move fid parent name) v = ⊤
IsInTime (Remove fid) v = ⊤
IsInTime (Park fid) v = ⊤
IsInTime (Erase fid) v = ⊤
IsInTime (Make uid kind bytes) v = IsBorn v uid
IsInTime (Rewrite fid bytes) v = ⊤
IsInTime (Place fid parent name) v = ⊤

-- next numbers that are free stay free
abbrev pub LeavesNumbersFree : Type 0
LeavesNumbersFree = (cmd : VolCmd) (v : State) → AreFree v → IsInTime cmd v → AreFree (step cmd v)
