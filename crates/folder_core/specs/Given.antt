-- What is given for an event, before its entry is made.
use Rattle.std.specs.Prelude.{◌≡◌, ◌≢◌, true, false}
use Rattle.record_db.specs.declared.command.BookCmd.{BookCmd}
use Rattle.record_db.specs.State.{BookState, IsBook}
use Rattle.record_db.specs.Steps.{Changes, is_allowed}
use Rattle.folder_core.specs.declared.answer.Answer.{Answer}
use Rattle.folder_core.specs.Machine.{Machine}
use Rattle.folder_core.specs.Notes.{mark_of}
use Rattle.folder_core.specs.Sound.{IsSound}

-- the mark is the reply's, and the vector changed where the answer says so
pub record IsNoted (answer : Answer) (old new : Machine) : Type 0 where
  pub mark : answer.mark ≡ mark_of answer.reply
  pub stays : answer.moved ≡ false → new.book.vector ≡ old.book.vector
  pub moves : answer.moved ≡ true → new.book.vector ≢ old.book.vector

-- a book that is changed by the command leaves the machine sound
abbrev pub StaysSound : BookCmd → Machine → Type 0
StaysSound cmd m = (new : BookState) → IsBook new → Changes cmd m.book new → IsSound (record m { book = new })

-- and has another vector
abbrev pub ChangesVector : BookCmd → Machine → Type 0
ChangesVector cmd m = (new : BookState) → Changes cmd m.book new → new.vector ≢ m.book.vector

-- the command may be taken, and changes the vector
pub record MayTake (cmd : BookCmd) (m : Machine) : Type 0 where
  pub allowed : is_allowed cmd m.book ≡ true
  pub sound : StaysSound cmd m
  pub changes : ChangesVector cmd m
