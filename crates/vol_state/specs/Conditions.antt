-- When a command does anything, and the step that it is.
use Rattle.std.specs.Prelude.{◌==◌, ◌&&◌, ◌||◌, not, nat_le, ℕ, Bool, if◌then◌else◌, List, length, is_some}
use Rattle.frs_base.specs.Identifiers.{content_set}
use Rattle.frs_base.specs.Versions.{same_uid}
use Rattle.frs_base.specs.declared.kind.Kind.{Kind}
use Rattle.frs_base.specs.declared.version.Uid.{Uid}
use Rattle.vol_state.specs.declared.object.Object.{Object}
use Rattle.vol_state.specs.declared.command.VolCmd.{VolCmd}
use Rattle.vol_state.specs.declared.command.VolCmd.TheVariants.{PutNew, PutOver, Mkdir, Move, Remove, Park, Erase, Make, Rewrite, Place}
use Rattle.frs_base.specs.Options.{some_is, none_or}
use Rattle.vol_state.specs.Places.{is_directory, is_directory_at, object_at, child, has_children, is_beneath, is_reached}
use Rattle.vol_state.specs.Paths.{largest}
use Rattle.vol_state.specs.State.{State, object_of}
use Rattle.vol_state.specs.Effects.{effect}
use Rattle.vol_state.specs.Numbers.{has_numbers}

-- the object has a place
abbrev pub is_placed : Object → Bool
is_placed o = is_some o.place

-- the object is in limbo
abbrev pub is_in_limbo : Object → Bool
is_in_limbo o = not (is_placed o)

-- the object is a file
abbrev pub is_file : Object → Bool
is_file o = not (is_directory o.kind)

-- a directory that a path leads to
abbrev pub is_open : List Object → ℕ → Bool
is_open objects fid = is_directory_at objects fid && is_reached objects fid

-- the object is there, and a path leads to it
abbrev pub is_open_object : List Object → ℕ → Bool
is_open_object objects fid = is_some (object_at objects fid) && is_reached objects fid

-- contents that a local put takes
abbrev pub is_within : List ℕ → Bool
is_within bytes = nat_le (length bytes) largest

-- a path leads to the directory, and nothing there has a matching name
abbrev pub is_free : List Object → ℕ → List ℕ → Bool
is_free objects parent name = is_open objects parent && not (is_some (child objects parent name))

-- the object can move there: not into or beneath itself, nor onto another's name
abbrev pub can_move : List Object → ℕ → ℕ → List ℕ → Bool
can_move objects fid parent name =
    is_open objects parent
    && (not (is_beneath objects fid parent)
    && none_or (λ o. o.fid == fid) (child objects parent name))

-- the object can be placed there: not into or beneath itself, nor onto a name
abbrev pub can_stand : List Object → ℕ → ℕ → List ℕ → Bool
can_stand objects fid parent name =
    is_directory_at objects parent
    && (not (is_beneath objects fid parent)
    && not (is_some (child objects parent name)))

-- the root's UID: the content set with version 1
abbrev pub root_uid : Uid
root_uid = record { db = content_set; version = 1 }

-- the UID isn't the root's and no object has it, and a directory has no contents
abbrev pub can_make : Uid → Kind → List ℕ → State → Bool
can_make uid kind bytes v =
    not (same_uid uid root_uid)
    && (not (is_some (object_of v uid))
    && (not (is_directory kind) || nat_le (length bytes) 0))

-- the condition of each command
abbrev pub is_allowed : VolCmd → State → Bool
is_allowed (PutNew parent name bytes) v = is_within bytes && is_free v.objects parent name
is_allowed (PutOver fid bytes) v = is_within bytes && (some_is is_file (object_at v.objects fid) && is_reached v.objects fid)
is_allowed (Mkdir parent name) v = is_free v.objects parent name
is_allowed (Move fid parent name) v = is_open_object v.objects fid && can_move v.objects fid parent name
is_allowed (Remove fid) v = is_open_object v.objects fid && not (has_children v.objects fid)
is_allowed (Park fid) v = some_is is_placed (object_at v.objects fid)
is_allowed (Erase fid) v = some_is is_in_limbo (object_at v.objects fid) && not (has_children v.objects fid)
is_allowed (Make uid kind bytes) v = can_make uid kind bytes v
is_allowed (Rewrite fid bytes) v = some_is is_file (object_at v.objects fid)
is_allowed (Place fid parent name) v = some_is is_in_limbo (object_at v.objects fid) && can_stand v.objects fid parent name

-- the volume after a command, which changes nothing where its condition doesn't hold or a number has run out
abbrev pub step : VolCmd → State → State
step cmd v = if has_numbers cmd v && is_allowed cmd v then effect cmd v else v
