-- The machine of a member: a member of the world alone, whose records are a list.
use Rattle.std.specs.Prelude.{◌≡◌, ◌==◌, ◌&&◌, nat_le, ℕ, Bool, List, [], ◌∷◌, Option, Some, None}
use Rattle.frs_base.specs.declared.kind.MemberKind.{MemberKind}
use Rattle.vol_state.specs.State.{State}
use Rattle.vol_state.specs.Seen.{fresh_state}
use Rattle.record_db.specs.State.{BookState, fresh_book}
use Rattle.folder_core.specs.declared.refusal.Refusal.{Refusal}
use Rattle.folder_core.specs.declared.reply.Reply.{Reply}
use Rattle.folder_core.specs.declared.reply.Reply.TheVariants.{Refused}

-- a volume with its journal, and a book: the records, the vector, the next journal record to consume
pub record Machine : Type 0 where
  pub volume : State
  pub book : BookState

-- the machine of a member that has done nothing
abbrev pub fresh_machine : MemberKind → ℕ → ℕ → Machine
fresh_machine kind own set = record { volume = fresh_state own; book = fresh_book kind own set }

-- a version of the own database that isn't consumed
abbrev pub is_ahead : Machine → ℕ → ℕ → Bool
is_ahead m db version = db == m.book.own && nat_le m.book.consumed version

-- the first of several answers that is one
abbrev pub first_of : {T : Type 0} → List (Option T) → Option T
first_of [] = None
first_of (Some x ∷ rest) = Some x
first_of (None ∷ rest) = first_of rest

-- the event is refused, and changes nothing
abbrev pub Refuses : Refusal → Machine → Reply → Machine → Type 0
Refuses why old reply new = (reply ≡ Refused why) × (new ≡ old)
