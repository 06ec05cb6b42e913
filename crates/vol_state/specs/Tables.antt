-- The two tables of operations, over the maps of a volume: when each may be done.
use Rattle.std.specs.Prelude.{◌≡◌, ◌≢◌, ◌⊎◌, ◌≤◌, ℕ, zero, suc, Bool, true, false, List, length, Some, None}
use Rattle.frs_base.specs.Names.{matches}
use Rattle.frs_base.specs.declared.version.Uid.{Uid}
use Rattle.vol_state.specs.declared.object.Object.{Object}
use Rattle.vol_state.specs.declared.command.VolCmd.{VolCmd}
use Rattle.vol_state.specs.declared.command.VolCmd.TheVariants.{PutNew, PutOver, Mkdir, Move, Remove, Park, Erase, Make, Rewrite, Place}
use Rattle.vol_state.specs.Places.{is_directory}
use Rattle.vol_state.specs.Paths.{largest}
use Rattle.vol_state.specs.State.{State, uid_of}
use Rattle.vol_state.specs.Conditions.{is_allowed, root_uid}
use Rattle.vol_state.specs.Valid.{IsVolume}
use Rattle.vol_state.specs.Laws.{AreFree}
use Rattle.vol_state.specs.Maps.{Maps, Stands}

-- ---- places

-- the object has this number
abbrev pub IsAt : Maps → ℕ → Object → Type 0
IsAt m fid o = m.at fid ≡ Some o

-- the root, whose number is 0, or a directory
abbrev pub IsDirectory : Maps → ℕ → Type 0
IsDirectory m fid = (fid ≡ 0) ⊎ ((o : Object) × IsAt m fid o × (is_directory o.kind ≡ true))

-- n places lead to the root; or to limbo, where that counts as an end
abbrev pub LeadsBy : Bool → Maps → ℕ → ℕ → Type 0
LeadsBy limbo m zero fid = fid ≡ 0
LeadsBy limbo m (suc n) fid = (fid ≡ 0) ⊎ ((o : Object) × IsAt m fid o
    × (((limbo ≡ true) × (o.place ≡ None)) ⊎ ((p : ℕ × List ℕ) × (o.place ≡ Some p) × LeadsBy limbo m n p.0)))

-- some places do
abbrev pub Leads : Bool → Maps → ℕ → Type 0
Leads limbo m fid = (n : ℕ) × LeadsBy limbo m n fid

-- the root, or an object whose places lead there
abbrev pub IsReached : Maps → ℕ → Type 0
IsReached m fid = Leads false m fid

-- fid is top, or n places lead from it to top
abbrev pub BeneathBy : Maps → ℕ → ℕ → ℕ → Type 0
BeneathBy m top zero fid = fid ≡ top
BeneathBy m top (suc n) fid = (fid ≡ top) ⊎ ((o : Object) × (p : ℕ × List ℕ) × IsAt m fid o × (o.place ≡ Some p) × BeneathBy m top n p.0)

-- it is top, or stands beneath it
abbrev pub IsBeneath : Maps → ℕ → ℕ → Type 0
IsBeneath m top fid = (n : ℕ) × BeneathBy m top n fid

-- no object but this one has a matching name there
abbrev pub IsFree : Maps → ℕ → ℕ → List ℕ → Type 0
IsFree m fid parent name = (g : ℕ) (o : Object) (p : ℕ × List ℕ) → IsAt m g o → o.place ≡ Some p → p.0 ≡ parent → matches p.1 name ≡ true → g ≡ fid

-- nothing stands in it
abbrev pub IsEmpty : Maps → ℕ → Type 0
IsEmpty m fid = (g : ℕ) (o : Object) (p : ℕ × List ℕ) → IsAt m g o → o.place ≡ Some p → p.0 ≢ fid

-- no object has the UID, in the volume of this database
abbrev pub IsNew : ℕ → Maps → Uid → Type 0
IsNew own m uid = (fid : ℕ) (o : Object) → IsAt m fid o → uid_of own o ≢ uid

-- ---- conditions

-- a directory that a path leads to, and no object but this one has the name there
abbrev pub IsOpen : Maps → ℕ → ℕ → List ℕ → Type 0
IsOpen m fid parent name = IsDirectory m parent × IsReached m parent × IsFree m fid parent name

-- a local operation may be done
abbrev pub IsLocal : Maps → VolCmd → Type 0
IsLocal m (PutNew parent name bytes) = (length bytes ≤ largest) × IsOpen m m.next_fid parent name
IsLocal m (PutOver fid bytes) = (length bytes ≤ largest) × (o : Object) × IsAt m fid o × IsReached m fid × (is_directory o.kind ≡ false)
IsLocal m (Mkdir parent name) = IsOpen m m.next_fid parent name
IsLocal m (Move fid parent name) = (o : Object) × IsAt m fid o × IsReached m fid × (IsBeneath m fid parent → ⊥) × IsOpen m fid parent name
IsLocal m (Remove fid) = (o : Object) × IsAt m fid o × IsReached m fid × IsEmpty m fid
IsLocal m (Park fid) = ⊥
IsLocal m (Erase fid) = ⊥
IsLocal m (Make uid kind bytes) = ⊥
IsLocal m (Rewrite fid bytes) = ⊥
IsLocal m (Place fid parent name) = ⊥

-- an operation of the installer may be done, in the volume of this database
abbrev pub IsReplica : ℕ → Maps → VolCmd → Type 0
IsReplica own m (PutNew parent name bytes) = ⊥
IsReplica own m (PutOver fid bytes) = ⊥
IsReplica own m (Mkdir parent name) = ⊥
IsReplica own m (Move fid parent name) = ⊥
IsReplica own m (Remove fid) = ⊥
IsReplica own m (Park fid) = (o : Object) × IsAt m fid o × (o.place ≢ None)
IsReplica own m (Erase fid) = (o : Object) × IsAt m fid o × (o.place ≡ None) × IsEmpty m fid
IsReplica own m (Make uid kind bytes) = (uid ≢ root_uid) × IsNew own m uid × (is_directory kind ≡ true → length bytes ≡ 0)
IsReplica own m (Rewrite fid bytes) = (o : Object) × IsAt m fid o × (is_directory o.kind ≡ false)
IsReplica own m (Place fid parent name) = (o : Object) × IsAt m fid o × (o.place ≡ None) × IsDirectory m parent × (IsBeneath m fid parent → ⊥) × IsFree m fid parent name

-- what a command may do by the code's test it may do by the tables, over the maps that the lists stand for
abbrev pub TestsAreTables : Type 0
TestsAreTables = (cmd : VolCmd) (v : State) (m : Maps) → IsVolume v → Stands v m → is_allowed cmd v ≡ true → IsLocal m cmd ⊎ IsReplica v.own m cmd

-- and what it may do by the tables, it may do by the code's test, where the next numbers are free
abbrev pub TablesAreTests : Type 0
TablesAreTests = (cmd : VolCmd) (v : State) (m : Maps) → IsVolume v → AreFree v → Stands v m → IsLocal m cmd ⊎ IsReplica v.own m cmd → is_allowed cmd v ≡ true
