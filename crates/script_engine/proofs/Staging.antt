-- The sums of what is staged.
use Rattle.std.proofs.Common.{◌≡◌, ℕ, Bool, true, false, cond, List, Option, Some, None, refl}
use Rattle.std.specs.Prelude.{option_map}
use Rattle.frs_base.specs.Versions.{same_uid}
use Rattle.frs_base.specs.declared.sum.Sum.{Sum}
use Rattle.frs_base.specs.declared.version.Uid.{Uid}
use Rattle.win_order.specs.declared.update.Update.{Update}
use Rattle.record_db.specs.Staged.{with_uid}
use Rattle.record_db.specs.Standing.{dropped_by}
use Rattle.world_model.specs.Events.{unstaged_by}
use Rattle.folder_core.specs.Notes.{form_sum}

-- the sums of forms, of which another is staged at one file
pub staged_with : (staged : Uid → Option Sum) (forms : Uid → Option (List ℕ)) (uid : Uid) (sum : Option Sum) (form : Option (List ℕ)) → ((id : Uid) → staged id ≡ option_map form_sum (forms id)) → sum ≡ option_map form_sum form
    → (id : Uid) → with_uid staged uid sum id ≡ option_map form_sum (with_uid forms uid form id)
staged_with staged forms uid sum form same is id = by (same_uid id uid)
  where
    by : (b : Bool) → cond b sum (staged id) ≡ option_map form_sum (cond b form (forms id))
    by true = is
    by false = same id

-- where an update was made, nothing is staged of its file
pub staged_dropped : (staged : Uid → Option Sum) (forms : Uid → Option (List ℕ)) (made : Option Update) → ((id : Uid) → staged id ≡ option_map form_sum (forms id))
    → (id : Uid) → unstaged_by made staged id ≡ option_map form_sum (dropped_by made forms id)
staged_dropped staged forms None same id = same id
staged_dropped staged forms (Some u) same id = staged_with staged forms u.uid None None same refl id
