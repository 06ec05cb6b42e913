-- What is staged, as the steps of the installer see it.
use Rattle.std.specs.Prelude.{ℕ, List, Option, Some, None, option_map}
use Rattle.frs_base.specs.declared.sum.Sum.{Sum}
use Rattle.frs_base.specs.declared.version.Uid.{Uid}
use Rattle.win_order.specs.declared.update.Update.{Update}
use Rattle.name_rules.specs.Recorded.{held_of}
use Rattle.record_db.specs.State.{BookState, form_of}

-- the hash of the held record, where a form is staged
abbrev pub staged_hash : Option (List ℕ) → Option Update → Option Sum
staged_hash None held = None
staged_hash (Some form) held = option_map (λ u. u.hash) held

-- of a file of which a form is staged, the hash of its record; of all else nothing
abbrev pub staged_hashes : BookState → Uid → Option Sum
staged_hashes book uid = staged_hash (form_of book uid) (held_of book.records uid)
