-- The next journal record is consumed.
use Rattle.std.specs.Prelude.{◌≡◌, ◌==◌, ◌^◌, nat_le, ℕ, Bool, MatchBool, MatchOption, Option, Some, None}
use Rattle.win_order.specs.declared.update.Update.{Update}
use Rattle.record_db.specs.declared.command.BookCmd.TheVariants.{RecordLocal}
use Rattle.name_rules.specs.Recorded.{recorded}
use Rattle.folder_core.specs.declared.refusal.Refusal.TheVariants.{Skewed}
use Rattle.folder_core.specs.declared.reply.Reply.{Reply}
use Rattle.folder_core.specs.declared.reply.Reply.TheVariants.{Made, Nothing, Skipped}
use Rattle.folder_core.specs.Machine.{Machine, Refuses}
use Rattle.folder_core.specs.Books.{Takes}

-- no journal record is left
abbrev pub is_at_end : Machine → Bool
is_at_end m = m.book.consumed == m.volume.next_usn

-- the update, or none, that the next journal record makes at a moment
abbrev pub made_at : Machine → ℕ → Option Update
made_at m moment = recorded m.volume m.book.consumed m.book.records moment m.book.phase m.book.kind

-- an update is refused where its clock is too far ahead, else it is the record of its file
abbrev pub AnswersMade : Update → Machine → Reply → Machine → Type 0
AnswersMade u old reply new =
    MatchBool (nat_le (2 ^ 62) u.clock)
    (Refuses (Skewed u.clock) old reply new)
    (Takes (RecordLocal old.book.consumed (Some u)) (Made u.gvsn) old reply new)

-- a journal record makes an update or none
abbrev pub AnswersRecord : Option Update → Machine → Reply → Machine → Type 0
AnswersRecord made old reply new =
    MatchOption made (Takes (RecordLocal old.book.consumed None) (Skipped old.book.consumed) old reply new) (λ u. AnswersMade u old reply new)

-- a journal record is left, or nothing changes
abbrev pub AnswersConsume : ℕ → Machine → Reply → Machine → Type 0
AnswersConsume moment old reply new =
    MatchBool (is_at_end old) ((reply ≡ Nothing) × (new ≡ old)) (AnswersRecord (made_at old moment) old reply new)
