-- The forms that are staged, by file.
use Rattle.std.specs.Prelude.{◌++◌, ℕ, List, Option, None, Some, if◌then◌else◌, map, option_map, option_to_list}
use Rattle.std.specs.List.{filter}
use Rattle.frs_base.specs.Versions.{same_uid, uid_lt}
use Rattle.frs_base.specs.declared.version.Uid.{Uid}
use Rattle.win_order.specs.declared.update.Update.{Update}
use Rattle.record_db.specs.declared.command.BookCmd.{BookCmd}
use Rattle.record_db.specs.declared.command.BookCmd.TheVariants.{RecordLocal, Adopt, Finish, Unstage}
use Rattle.record_db.specs.declared.staged.Staged.{Staged}

-- the forms of a map by their files
abbrev pub staged_of : List (Uid × List ℕ) → List Staged
staged_of es = map (λ e. record { uid = e.0; form = e.1 }) es

-- the map with another value at one file
abbrev pub with_uid : {X : Type 0} → (Uid → X) → Uid → X → Uid → X
with_uid f uid x other = if same_uid other uid then x else f other

-- what is staged of lower UIDs, then the form if there is one, then what is staged of higher UIDs
abbrev pub staged_with : Uid → Option (List ℕ) → List Staged → List Staged
staged_with uid form staged =
    filter (λ s. uid_lt s.uid uid) staged
    ++ (option_to_list (option_map (λ f. record { uid = uid; form = f }) form) ++ filter (λ s. uid_lt uid s.uid) staged)

-- where there is an update, this is staged of its file
abbrev pub staged_by : Option Update → Option (List ℕ) → List Staged → List Staged
staged_by None form staged = staged
staged_by (Some u) form staged = staged_with u.uid form staged

-- the form that a command brings
abbrev pub form_brought : BookCmd → Option (List ℕ)
form_brought (RecordLocal usn update) = None
form_brought (Adopt u form) = form
form_brought (Finish sent) = None
form_brought (Unstage uid) = None

-- what is staged afterwards: a local update leaves nothing of its file
abbrev pub staged_after : BookCmd → List Staged → List Staged
staged_after (RecordLocal usn update) staged = staged_by update None staged
staged_after (Adopt u form) staged = staged_with u.uid form staged
staged_after (Finish sent) staged = staged
staged_after (Unstage uid) staged = staged_with uid None staged
