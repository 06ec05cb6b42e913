-- When each fault of a journal may come.
use Rattle.std.specs.Prelude.{ℕ, ◌≡◌, ◌≤◌, ◌<◌, ◌⊎◌, ◌^◌, Bool, true}
use Rattle.frs_disk.specs.Alarms.{Alarm, FailsSome, PassesSome, Rose}
use Rattle.frs_journal.specs.declared.faults.ApplyFault.{ApplyFault}
use Rattle.frs_journal.specs.declared.faults.ApplyFault.TheVariants.{Memory, DiskFault, JournalFull, Shut}
use Rattle.frs_journal.specs.declared.faults.LoadWhy.{LoadWhy}
use Rattle.frs_journal.specs.declared.faults.LoadWhy.TheVariants as why

-- a call of the device failed
abbrev pub IsDiskFault : ApplyFault → Type 0
IsDiskFault Memory = ⊥
IsDiskFault (DiskFault count) = Unit
IsDiskFault (JournalFull length) = ⊥
IsDiskFault Shut = ⊥

-- by whether the journal was shut, the length that the slot would have, and the disk's faults before and now
abbrev pub IsApplyFault : ApplyFault → Bool → ℕ → ℕ → ℕ → Type 0
IsApplyFault Memory was_shut length before now = Unit
IsApplyFault (DiskFault count) was_shut length before now = (count ≡ now) × Rose before now × (length ≤ 2 ^ 32)
IsApplyFault (JournalFull n) was_shut length before now = (n ≡ length) × (2 ^ 32 < n)
IsApplyFault Shut was_shut length before now = was_shut ≡ true

-- the same of a call that makes no call of the device
abbrev pub IsRefused : ApplyFault → Bool → ℕ → Type 0
IsRefused Memory was_shut length = Unit
IsRefused (DiskFault count) was_shut length = ⊥
IsRefused (JournalFull n) was_shut length = (n ≡ length) × (2 ^ 32 < n)
IsRefused Shut was_shut length = was_shut ≡ true

-- the fault of a commit
abbrev pub IsCommitFault : ApplyFault → ℕ → ℕ → Type 0
IsCommitFault Memory before now = ⊥
IsCommitFault (DiskFault count) before now = (count ≡ now) × Rose before now
IsCommitFault (JournalFull n) before now = ⊥
IsCommitFault Shut before now = ⊥

-- a disk counts so many faults, more than before
abbrev pub IsCounted : ℕ → ℕ → ℕ → Type 0
IsCounted count before now = (count ≡ now) × Rose before now

-- memory ran out, or a call of this disk failed, by its faults before and now
abbrev pub IsDeviceFault : LoadWhy → ℕ → ℕ → Type 0
IsDeviceFault why.Memory before now = Unit
IsDeviceFault (why.DiskFault count) before now = IsCounted count before now
IsDeviceFault (why.Damaged slot offset) before now = ⊥

-- the same, or a slot is damaged
abbrev pub IsSlotFault : LoadWhy → ℕ → ℕ → Type 0
IsSlotFault why.Memory before now = Unit
IsSlotFault (why.DiskFault count) before now = IsCounted count before now
IsSlotFault (why.Damaged slot offset) before now = Unit

-- memory ran out, or a call of one of two disks failed, by the faults of each before and now
abbrev pub IsUnread : LoadWhy → ℕ → ℕ → ℕ → ℕ → Type 0
IsUnread why.Memory a a' b b' = Unit
IsUnread (why.DiskFault count) a a' b b' = IsCounted count a a' ⊎ IsCounted count b b'
IsUnread (why.Damaged slot offset) a a' b b' = ⊥

-- the same, or a slot is damaged
abbrev pub IsLoadFault : LoadWhy → ℕ → ℕ → ℕ → ℕ → Type 0
IsLoadFault why.Memory a a' b b' = Unit
IsLoadFault (why.DiskFault count) a a' b b' = IsCounted count a a' ⊎ IsCounted count b b'
IsLoadFault (why.Damaged slot offset) a a' b b' = Unit

-- what was done to the alarm of a disk before a journal wasn't opened: no call failed, or the last one did, and the count is that of the faults
abbrev pub Halts : LoadWhy → Alarm → Alarm → Type 0
Halts why.Memory old new = PassesSome old new
Halts (why.DiskFault count) old new = FailsSome old new × (count ≡ new.faults)
Halts (why.Damaged slot offset) old new = PassesSome old new

-- the same of two disks: of one of them a call failed
abbrev pub HaltsEither : LoadWhy → Alarm → Alarm → Alarm → Alarm → Type 0
HaltsEither why.Memory a a' b b' = PassesSome a a' × PassesSome b b'
HaltsEither (why.DiskFault count) a a' b b' =
    (FailsSome a a' × (count ≡ a'.faults) × PassesSome b b') ⊎ (PassesSome a a' × FailsSome b b' × (count ≡ b'.faults))
HaltsEither (why.Damaged slot offset) a a' b b' = PassesSome a a' × PassesSome b b'
