-- The table of replica operations: what is done to the object of a UID, and its command.
use Rattle.std.specs.Prelude.{◌&&◌, not, ℕ, Bool, if◌then◌else◌, List, Option, Some, None, option_map}
use Rattle.frs_base.specs.Versions.{same_uid}
use Rattle.frs_base.specs.declared.kind.Kind.{Kind}
use Rattle.frs_base.specs.declared.version.Uid.{Uid}
use Rattle.vol_state.specs.declared.command.VolCmd.{VolCmd}
use Rattle.vol_state.specs.declared.command.VolCmd.TheVariants as cmd
use Rattle.vol_state.specs.Places.{has_children}
use Rattle.vol_state.specs.State.{State, object_of}
use Rattle.vol_state.specs.Conditions.{is_placed, is_in_limbo, is_file, can_stand, can_make, root_uid}

-- what the installer does, by UIDs
pub data ReplicaOp : Type 0 where
  Park : Uid → ReplicaOp
  Erase : Uid → ReplicaOp
  Make : Uid → Kind → List ℕ → ReplicaOp
  Rewrite : Uid → List ℕ → ReplicaOp
  Place : Uid → Uid → List ℕ → ReplicaOp

-- a command, where its condition holds
abbrev pub only_if : Bool → VolCmd → Option VolCmd
only_if condition cmd = if condition then Some cmd else None

-- what is there decides
abbrev pub and_then : {A B : Type 0} → Option A → (A → Option B) → Option B
and_then None next = None
and_then (Some x) next = next x

-- the number of the directory with this UID, the root's is 0
abbrev pub parent_fid : State → Uid → Option ℕ
parent_fid v parent = if same_uid parent root_uid then Some 0 else option_map (λ o. o.fid) (object_of v parent)

-- each row of the table: the command, where the condition holds
abbrev pub replica : State → ReplicaOp → Option VolCmd
replica v (Park uid) = and_then (object_of v uid) (λ o. only_if (is_placed o) (cmd.Park o.fid))
replica v (Erase uid) = and_then (object_of v uid) (λ o. only_if (is_in_limbo o && not (has_children v.objects o.fid)) (cmd.Erase o.fid))
replica v (Make uid kind bytes) = only_if (can_make uid kind bytes v) (cmd.Make uid kind bytes)
replica v (Rewrite uid bytes) = and_then (object_of v uid) (λ o. only_if (is_file o) (cmd.Rewrite o.fid bytes))
replica v (Place uid parent name) =
    and_then (object_of v uid) (λ o. and_then (parent_fid v parent) (λ at.
    only_if (is_in_limbo o && can_stand v.objects o.fid at name) (cmd.Place o.fid at name)))
