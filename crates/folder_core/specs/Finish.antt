-- A round is finished.
use Rattle.std.specs.Prelude.{◌≡◌, ◌⊎◌, ◌≤◌, not, ℕ, Bool, true, List, Option, MatchOption, find}
use Rattle.frs_base.specs.Options.{some_is}
use Rattle.version_vector.specs.Versions.{covers}
use Rattle.version_vector.specs.declared.interval.Interval.{Interval}
use Rattle.win_order.specs.Order.{key_lt, key_of}
use Rattle.win_order.specs.declared.update.Update.{Update}
use Rattle.record_db.specs.declared.command.BookCmd.TheVariants as cmd
use Rattle.record_db.specs.Steps.{own_version}
use Rattle.name_rules.specs.Recorded.{held_of}
use Rattle.folder_core.specs.declared.refusal.Refusal.TheVariants.{OwnAhead, Unheld}
use Rattle.folder_core.specs.declared.reply.Reply.{Reply}
use Rattle.folder_core.specs.declared.reply.Reply.TheVariants.{Finished}
use Rattle.folder_core.specs.Machine.{Machine, Refuses}
use Rattle.folder_core.specs.Books.{Takes}

-- the vector has an own version that isn't consumed
abbrev pub HasAhead : Machine → List Interval → ℕ → Type 0
HasAhead m sent version = (m.book.consumed ≤ version) × (covers sent (own_version m.book version) ≡ true)

-- it is the least of them
abbrev pub IsLeastAhead : Machine → List Interval → ℕ → Type 0
IsLeastAhead m sent version = HasAhead m sent version × ((other : ℕ) → HasAhead m sent other → version ≤ other)

-- there is none
abbrev pub HasNoneAhead : Machine → List Interval → Type 0
HasNoneAhead m sent = (version : ℕ) → HasAhead m sent version → ⊥

-- the record of the update's file has no smaller key
abbrev pub is_held_or_beaten : List Update → Update → Bool
is_held_or_beaten records u = some_is (λ r. not (key_lt (key_of r) (key_of u))) (held_of records u.uid)

-- the first update that is neither held nor beaten
abbrev pub first_unheld : List Update → List Update → Option Update
first_unheld records seen = find (λ u. not (is_held_or_beaten records u)) seen

-- the first update of the pages that isn't held or beaten is refused, else all of the vector is covered
abbrev pub AnswersSeen : List Interval → List Update → Machine → Reply → Machine → Type 0
AnswersSeen sent seen old reply new =
    MatchOption (first_unheld old.book.records seen) (Takes (cmd.Finish sent) Finished old reply new) (λ u. Refuses (Unheld u.uid) old reply new)

-- an own version that isn't consumed is refused before that
abbrev pub AnswersFinish : List Interval → List Update → Machine → Reply → Machine → Type 0
AnswersFinish sent seen old reply new =
    ((version : ℕ) × IsLeastAhead old sent version × Refuses (OwnAhead version) old reply new)
    ⊎ (HasNoneAhead old sent × AnswersSeen sent seen old reply new)
