-- A slot is opened.
use Rattle.std.specs.Prelude.{ℕ, ◌≡◌, ◌≤◌, ◌+◌, ◌-◌, ◌%◌, ◌^◌, List, [], ◌∷◌, ◌++◌, length, map, Option}
use Rattle.std.specs.List.{All}
use Rattle.frs_base.specs.Machines.{Rules, Runs}
use Rattle.frs_disk.specs.Crashes.{Crash, still}
use Rattle.frs_disk.specs.Moments.{Now}
use Rattle.frs_disk.specs.Alarms.{Rose}
use Rattle.frs_journal.specs.Damage.{IsBroken}
use Rattle.frs_journal.specs.Loads.{IsMark}
use Rattle.frs_journal.specs.Reading.{generation_at}
use Rattle.frs_journal.specs.Slots.{IsShort, serial_at, slot_front}
use Rattle.frs_journal.specs.declared.faults.LoadWhy.{LoadWhy}
use Rattle.frs_journal.specs.declared.faults.LoadWhy.TheVariants.{Memory, DiskFault, Damaged}
use Rattle.frs_journal.specs.declared.faults.Slot.{Slot}

-- both have the same header, the same records and the same gate behind them, which isn't 1
pub record SameList (xs c : List ℕ) : Type 0 where
  pub generation : ℕ
  pub first : ℕ
  pub payloads : List (List ℕ)
  pub gate : ℕ
  pub rest : List ℕ
  pub left : List ℕ
  pub closed : gate ≡ 1 → ⊥
  pub short : All IsShort payloads
  pub whole : xs ≡ slot_front generation first payloads ++ gate ∷ rest
  pub same : c ≡ slot_front generation first payloads ++ gate ∷ left

-- the slot's commands lead from the fresh state to this one, and its disk ends behind their records and a gate that isn't 1
pub record Opens {S C : Type 0} (law : Rules S C) (fresh : S) (bytes : List ℕ) (state : S) (end serial : ℕ) (told : Option (List Crash)) : Type 0 where
  pub commands : List C
  pub mark : List (List ℕ)
  pub saved : ℕ
  pub gate : ℕ
  pub rest : List ℕ
  pub marked : IsMark mark saved
  pub enough : saved ≤ length commands
  pub closed : gate ≡ 1 → ⊥
  pub known : All law.is_cmd commands
  pub short : All IsShort (mark ++ map law.code commands)
  pub whole : bytes ≡ slot_front (generation_at bytes) (serial_at bytes) (mark ++ map law.code commands) ++ gate ∷ rest
  pub size : length (slot_front (generation_at bytes) (serial_at bytes) (mark ++ map law.code commands)) + 1 ≡ end
  pub runs : Runs law.step fresh commands state
  pub count : serial ≡ (serial_at bytes + (length commands - saved)) % 2 ^ 64
  pub disk : Now (λ s. s ≡ still (slot_front (generation_at bytes) (serial_at bytes) (mark ++ map law.code commands) ++ gate ∷ [])) told

-- why a slot wasn't opened, by the faults of its disk before and now
abbrev pub OpenFault : {S C : Type 0} → Rules S C → Slot → List ℕ → LoadWhy → ℕ → ℕ → Type 0
OpenFault law slot bytes Memory before now = Unit
OpenFault law slot bytes (DiskFault count) before now = (count ≡ now) × Rose before now
OpenFault law slot bytes (Damaged s offset) before now = (s ≡ slot) × IsBroken law bytes offset
