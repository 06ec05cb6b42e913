-- Where objects are.
use Rattle.std.specs.Prelude.{◌==◌, ◌&&◌, ◌||◌, ℕ, zero, suc, Bool, true, false, List, length, Option, Some, None, find, option_map}
use Rattle.std.specs.List.{list_any}
use Rattle.frs_base.specs.declared.kind.Kind.{Kind}
use Rattle.frs_base.specs.declared.kind.Kind.TheVariants.{File, Directory}
use Rattle.frs_base.specs.Names.{matches}
use Rattle.vol_state.specs.declared.object.Object.{Object}
use Rattle.frs_base.specs.Options.{some_is, none_or}

-- the kind of a directory
abbrev pub is_directory : Kind → Bool
is_directory File = false
is_directory Directory = true

-- the object with this number
abbrev pub object_at : List Object → ℕ → Option Object
object_at objects fid = find (λ o. o.fid == fid) objects

-- the root, whose number is 0, or a directory that is there
abbrev pub is_directory_at : List Object → ℕ → Bool
is_directory_at objects fid = fid == 0 || some_is (λ o. is_directory o.kind) (object_at objects fid)

-- the object stands in this directory under a matching name
abbrev pub is_child : ℕ → List ℕ → Object → Bool
is_child parent name o = some_is (λ p. p.0 == parent && matches p.1 name) o.place

-- the object in a directory under a matching name
abbrev pub child : List Object → ℕ → List ℕ → Option Object
child objects parent name = find (is_child parent name) objects

-- an object stands in this directory
abbrev pub has_children : List Object → ℕ → Bool
has_children objects fid = list_any (λ o. some_is (λ p. p.0 == fid) o.place) objects

-- the directory in which an object stands
abbrev pub above_it : Option Object → Option ℕ
above_it None = None
above_it (Some o) = option_map (λ p. p.0) o.place

-- one step up: none from the root, from limbo and from what isn't there
abbrev pub above : List Object → ℕ → Option ℕ
above objects fid = above_it (object_at objects fid)

-- fid is top, or top is reached from it in at most n steps up
abbrev pub is_under : List Object → ℕ → ℕ → ℕ → Bool
is_under objects zero top fid = fid == top
is_under objects (suc n) top fid = fid == top || some_is (is_under objects n top) (above objects fid)

-- fid is top or stands beneath it; one step for each object is enough
abbrev pub is_beneath : List Object → ℕ → ℕ → Bool
is_beneath objects top fid = is_under objects (length objects) top fid

-- the root, or beneath it
abbrev pub is_reached : List Object → ℕ → Bool
is_reached objects fid = is_beneath objects 0 fid

-- climbing comes to an end in fewer than n steps
abbrev pub ends_in : List Object → ℕ → ℕ → Bool
ends_in objects zero fid = false
ends_in objects (suc n) fid = none_or (ends_in objects n) (above objects fid)
