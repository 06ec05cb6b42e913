-- Which record has a name in a directory.
use Rattle.std.specs.Prelude.{◌≡◌, ◌&&◌, ℕ, Bool, true, List, Option, Some, None, if◌then◌else◌}
use Rattle.frs_base.specs.Names.{matches}
use Rattle.frs_base.specs.Options.{In}
use Rattle.frs_base.specs.Versions.{same_uid}
use Rattle.frs_base.specs.declared.version.Uid.{Uid}
use Rattle.win_order.specs.Order.{key_lt, key_of}
use Rattle.win_order.specs.declared.update.Update.{Update}
use Rattle.name_rules.specs.Tree.{HasName}
use Rattle.name_rules.specs.Shown.{Among}

-- a present one of this directory, whose name matches this one
abbrev pub wants : Uid → List ℕ → Update → Bool
wants parent name u = u.present && same_uid u.parent parent && matches u.name name

-- of the one that led before, if there was one, and another the one with the greater key
abbrev pub leader_of : Option Update → Update → Option Update
leader_of None u = Some u
leader_of (Some w) u = if key_lt (key_of w) (key_of u) then Some u else Some w

-- the file of the record that has the name there; none where no present record wants it
abbrev pub IsNameWinner : List Update → Uid → List ℕ → Option Uid → Type 0
IsNameWinner records parent name (Some uid) = (u : Update) × HasName (Among records) u × (u.uid ≡ uid) × (u.parent ≡ parent) × (matches u.name name ≡ true)
IsNameWinner records parent name None = (u : Update) → In u records → u.present ≡ true → u.parent ≡ parent → matches u.name name ≡ true → ⊥
