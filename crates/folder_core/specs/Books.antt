-- What an event makes of the book.
use Rattle.std.specs.Prelude.{◌≡◌, ◌⊎◌, ◌≤◌, ℕ, length}
use Rattle.version_vector.specs.Limits.{IsTooLong}
use Rattle.version_vector.specs.declared.errors.VectorError.TheVariants as vector
use Rattle.record_db.specs.declared.command.BookCmd.{BookCmd}
use Rattle.record_db.specs.Steps.{Changes, covered_after}
use Rattle.folder_core.specs.declared.refusal.Refusal.TheVariants.{VectorFull}
use Rattle.folder_core.specs.declared.reply.Reply.{Reply}
use Rattle.folder_core.specs.Machine.{Machine, Refuses}

-- the book is changed by the command, and the volume stays
pub record Changed (cmd : BookCmd) (old new : Machine) : Type 0 where
  pub volume : new.volume ≡ old.volume
  pub book : Changes cmd old.book new.book
  pub within : length new.book.vector ≤ 65536

-- the vector would have so many intervals, too many, so that nothing changes
abbrev pub IsFull : BookCmd → ℕ → Machine → Reply → Machine → Type 0
IsFull cmd count old reply new = IsTooLong (vector.VectorFull count) (covered_after cmd old.book) × Refuses (VectorFull count) old reply new

-- the book is changed by the command, with this reply; or its vector would have too many intervals
abbrev pub Takes : BookCmd → Reply → Machine → Reply → Machine → Type 0
Takes cmd done old reply new =
    ((reply ≡ done) × Changed cmd old new)
    ⊎ ((count : ℕ) × IsFull cmd count old reply new)
