-- The members of a script and their world.
use Rattle.std.specs.Prelude.{◌≡◌, ℕ, ◌+◌, List, [], ◌∷◌, ◌++◌, Option, Some, None, bytes_eq, length, position}
use Rattle.frs_base.specs.Identifiers.{database_of}
use Rattle.frs_base.specs.declared.kind.MemberKind.{MemberKind}
use Rattle.frs_base.specs.declared.kind.MemberKind.TheVariants.{Plain}
use Rattle.frs_base.specs.declared.version.Uid.{Uid}
use Rattle.vol_state.specs.Maps.{with_at}
use Rattle.record_db.specs.Staged.{with_uid}
use Rattle.world_model.specs.World.{World, fresh_world, with_member}
use Rattle.script_engine.specs.declared.names.MemberName.{MemberName}

-- of each member, by its database, and each file the contents that were staged last; whether any are staged the world says
abbrev pub Contents : Type 0
Contents = ℕ → Uid → List ℕ

-- what each `member` line named, in order, and nothing where it was refused; the world: the k-th line, from 1, has the k-th database; and what was staged
pub record Scene : Type 0 where
  pub names : List (List ℕ)
  pub world : World
  pub contents : Contents

-- names, each with its member's database, from the k-th on
abbrev pub numbered : ℕ → List (List ℕ) → List MemberName
numbered k [] = []
numbered k (name ∷ names) = record { db = database_of k; name = name } ∷ numbered (k + 1) names

-- the members' names with their databases
abbrev pub members_of : Scene → List MemberName
members_of s = numbered 1 s.names

-- before the first line
abbrev pub fresh_scene : Scene
fresh_scene = record { names = []; world = fresh_world (λ d. Plain); contents = λ d uid. [] }

-- the place, from 0, of the first member with this name
abbrev pub place_of : List (List ℕ) → List ℕ → Option ℕ
place_of names name = position (λ n. bytes_eq n name) names

-- the database of the member with this name
abbrev pub IsNamed : Scene → List ℕ → ℕ → Type 0
IsNamed s name d = (k : ℕ) × (place_of s.names name ≡ Some k) × (d ≡ database_of (k + 1))

-- another world
abbrev pub in_world : Scene → World → Scene
in_world s w = record s { world = w }

-- what was staged last, once these contents, if any, were staged of a file at a member
abbrev pub with_contents : Contents → ℕ → Uid → Option (List ℕ) → Contents
with_contents contents d uid None = contents
with_contents contents d uid (Some bytes) = with_at contents d (with_uid (contents d) uid bytes)

-- one member more, of this kind; until then it is a member that has done nothing
abbrev pub with_name : Scene → List ℕ → MemberKind → Scene
with_name s name kind =
    let d = database_of (length s.names + 1) in
    record s { names = s.names ++ name ∷ []; world = with_member s.world d (record (s.world.at d) { kind = kind }) }

-- a refused `member` line takes its number: of a member that no line can name
abbrev pub without_name : Scene → Scene
without_name s = with_name s [] Plain
