-- What consuming the next journal record comes to.
use Rattle.std.specs.Prelude.{◌≡◌, ◌<◌, ◌≤◌, ◌^◌, ◌==◌, ◌⊎◌, nat_lt, ℕ, Bool, if◌then◌else◌, List, Option, Some, None, IsSome}
use Rattle.std.specs.List.{list_all}
use Rattle.win_order.specs.declared.update.Update.{Update}
use Rattle.vol_state.specs.Journal.{record_at}
use Rattle.vol_state.specs.State.{State}
use Rattle.name_rules.specs.Recorded.{recorded}
use Rattle.record_db.specs.State.{BookState}
use Rattle.usn_consumer.specs.declared.consumed.ConsumeError.{ConsumeError}
use Rattle.usn_consumer.specs.declared.consumed.ConsumeError.TheVariants.{Skewed, Memory}
use Rattle.usn_consumer.specs.declared.consumed.Consumed.{Consumed}
use Rattle.usn_consumer.specs.declared.consumed.Consumed.TheVariants.{Skip, Make, End}

-- it is the next USN of the volume, or the USN of a journal record
abbrev pub IsNext : State → ℕ → Type 0
IsNext v usn = (usn ≡ v.next_usn) ⊎ IsSome (record_at v.journal usn)

-- the clock of each record is below 2^62
abbrev pub have_clocks : List Update → Bool
have_clocks records = list_all (λ u. nat_lt u.clock (2 ^ 62)) records

-- an update, if any
abbrev pub making : Option Update → Consumed
making None = Skip
making (Some u) = Make u

-- the end at the next USN, else what the journal record makes at a moment
abbrev pub next_of : State → BookState → ℕ → Consumed
next_of v book moment = if book.consumed == v.next_usn then End else making (recorded v book.consumed book.records moment book.phase book.kind)

-- an update has a clock below 2^62
abbrev pub HasClock : Consumed → Type 0
HasClock Skip = Unit {0}
HasClock (Make u) = u.clock < 2 ^ 62
HasClock End = Unit {0}

-- an update would be made with this clock, 2^62 or more
abbrev pub IsSkewed : ConsumeError → Consumed → Type 0
IsSkewed (Skewed clock) found = (u : Update) × (found ≡ Make u) × (u.clock ≡ clock) × (2 ^ 62 ≤ clock)
IsSkewed Memory found = Unit {0}
