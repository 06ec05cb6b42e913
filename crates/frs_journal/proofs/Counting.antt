-- The disk whose call failed has counted it, and no other one failed.
use Rattle.std.proofs.Common.{◌≡◌, ℕ, Bool, true, false, List, sym, ap, subst, inl, inr}
use Rattle.std.specs.Prelude.{Result, Ok, Err, IfOk, IfErr}
use Rattle.frs_base.specs.Machines.{Rules}
use Rattle.frs_disk.specs.Alarms.{Alarm, PassesSome}
use Rattle.frs_disk.proofs.Ringing.{fails_some, passes_same, passes_some}
use Rattle.frs_journal.specs.Faults.{Halts, HaltsEither, IsCounted, IsDeviceFault, IsLoadFault, IsSlotFault, IsUnread}
use Rattle.frs_journal.specs.Opens.{OpenFault}
use Rattle.frs_journal.specs.Slots.{slot_a, slot_b}
use Rattle.frs_journal.specs.State.{State, disk_a, disk_b}
use Rattle.frs_journal.specs.declared.faults.LoadWhy.{LoadWhy}
use Rattle.frs_journal.specs.declared.faults.LoadWhy.TheVariants as why
use Rattle.frs_journal.specs.declared.faults.Slot.{Slot}

-- calls before that moved no count
pub counted_from : (count a m a' : ℕ) → m ≡ a → IsCounted count m a' → IsCounted count a a'
counted_from count a m a' same h = let P : ℕ → Type 0 = λ x. IsCounted count x a' in subst P same h

pub device_unread_a : (w : LoadWhy) (a m a' b b' : ℕ) → m ≡ a → IsDeviceFault w m a' → IsUnread w a a' b b'
device_unread_a why.Memory a m a' b b' same h = tt
device_unread_a (why.DiskFault count) a m a' b b' same h = inl (counted_from count a m a' same h)
device_unread_a (why.Damaged s offset) a m a' b b' same h = h

pub device_unread_b : (w : LoadWhy) (a a' b m b' : ℕ) → m ≡ b → IsDeviceFault w m b' → IsUnread w a a' b b'
device_unread_b why.Memory a a' b m b' same h = tt
device_unread_b (why.DiskFault count) a a' b m b' same h = inr (counted_from count b m b' same h)
device_unread_b (why.Damaged s offset) a a' b m b' same h = h

pub unread_load : (w : LoadWhy) (a a' b b' : ℕ) → IsUnread w a a' b b' → IsLoadFault w a a' b b'
unread_load why.Memory a a' b b' h = tt
unread_load (why.DiskFault count) a a' b b' h = h
unread_load (why.Damaged s offset) a a' b b' h = tt

pub device_load : (w : LoadWhy) (a a' b b' : ℕ) → IsDeviceFault w a a' → IsLoadFault w a a' b b'
device_load why.Memory a a' b b' h = tt
device_load (why.DiskFault count) a a' b b' h = inl h
device_load (why.Damaged s offset) a a' b b' h = tt

pub slot_load_a : (w : LoadWhy) (a a' b b' : ℕ) → IsSlotFault w a a' → IsLoadFault w a a' b b'
slot_load_a why.Memory a a' b b' h = tt
slot_load_a (why.DiskFault count) a a' b b' h = inl h
slot_load_a (why.Damaged s offset) a a' b b' h = tt

pub slot_load_b : (w : LoadWhy) (a a' b b' : ℕ) → IsSlotFault w b b' → IsLoadFault w a a' b b'
slot_load_b why.Memory a a' b b' h = tt
slot_load_b (why.DiskFault count) a a' b b' h = inr h
slot_load_b (why.Damaged s offset) a a' b b' h = tt

pub load_from : (w : LoadWhy) (a m a' b n b' : ℕ) → m ≡ a → n ≡ b → IsLoadFault w m a' n b' → IsLoadFault w a a' b b'
load_from why.Memory a m a' b n b' same other h = tt
load_from (why.DiskFault count) a m a' b n b' same other (inl h) = inl (counted_from count a m a' same h)
load_from (why.DiskFault count) a m a' b n b' same other (inr h) = inr (counted_from count b n b' other h)
load_from (why.Damaged s offset) a m a' b n b' same other h = tt

pub open_counted : {S C : Type 0} (law : Rules S C) (slot : Slot) (bytes : List ℕ) (w : LoadWhy) (before now : ℕ) → OpenFault law slot bytes w before now → IsSlotFault w before now
open_counted law slot bytes why.Memory before now h = tt
open_counted law slot bytes (why.DiskFault count) before now h = h
open_counted law slot bytes (why.Damaged s offset) before now h = tt

-- two things that an answer says
pub ok_both : {T E : Type 0} (r : Result T E) (P Q : T → Type 0) → IfOk r P → IfOk r Q → IfOk r (λ x. P x × Q x)
ok_both (Ok x) P Q p q = (p, q)
ok_both (Err e) P Q p q = tt

pub err_both : {T E : Type 0} (r : Result T E) (P Q : E → Type 0) → IfErr r P → IfErr r Q → IfErr r (λ x. P x × Q x)
err_both (Ok x) P Q p q = tt
err_both (Err e) P Q p q = (p, q)

-- calls that passed before
pub halts_behind : (w : LoadWhy) (a m b : Alarm) → PassesSome a m → Halts w m b → Halts w a b
halts_behind why.Memory a m b first h = passes_some a m b first h
halts_behind (why.DiskFault count) a m b first h = (fails_some a m b first h.0, h.1)
halts_behind (why.Damaged s offset) a m b first h = passes_some a m b first h

pub halts_from : (w : LoadWhy) (a m a' b n b' : Alarm) → PassesSome a m → PassesSome b n → HaltsEither w m a' n b' → HaltsEither w a a' b b'
halts_from why.Memory a m a' b n b' first second h = (passes_some a m a' first h.0, passes_some b n b' second h.1)
halts_from (why.DiskFault count) a m a' b n b' first second (inl h) = inl (fails_some a m a' first h.0, h.1, passes_some b n b' second h.2)
halts_from (why.DiskFault count) a m a' b n b' first second (inr h) = inr (passes_some a m a' first h.0, fails_some b n b' second h.1, h.2)
halts_from (why.Damaged s offset) a m a' b n b' first second h = (passes_some a m a' first h.0, passes_some b n b' second h.1)

-- one of two disks
pub halts_first : (w : LoadWhy) (a a' b b' : Alarm) → Halts w a a' → PassesSome b b' → HaltsEither w a a' b b'
halts_first why.Memory a a' b b' h other = (h, other)
halts_first (why.DiskFault count) a a' b b' h other = inl (h.0, h.1, other)
halts_first (why.Damaged s offset) a a' b b' h other = (h, other)

pub halts_second : (w : LoadWhy) (a a' b b' : Alarm) → PassesSome a a' → Halts w b b' → HaltsEither w a a' b b'
halts_second why.Memory a a' b b' other h = (other, h)
halts_second (why.DiskFault count) a a' b b' other h = inr (other, h.0, h.1)
halts_second (why.Damaged s offset) a a' b b' other h = (other, h)

-- from the current slot and the other one to the slots in their order
pub passes_a : {M D : Type 0} (x : D → Alarm) (current other : D) (j : State M D) → PassesSome (x current) (x j.current) → j.other ≡ other → j.in_b ≡ false
    → PassesSome (x current) (x (disk_a j)) × PassesSome (x other) (x (disk_b j))
passes_a x current other j passes same first =
    let P : Bool → Type 0 = λ b. PassesSome (x current) (x (slot_a b j.current j.other)) × PassesSome (x other) (x (slot_b b j.current j.other)) in
    subst P (sym first) (passes, passes_same (x other) (x j.other) (ap x same))

pub passes_b : {M D : Type 0} (x : D → Alarm) (current other : D) (j : State M D) → PassesSome (x current) (x j.current) → j.other ≡ other → j.in_b ≡ true
    → PassesSome (x other) (x (disk_a j)) × PassesSome (x current) (x (disk_b j))
passes_b x current other j passes same first =
    let P : Bool → Type 0 = λ b. PassesSome (x other) (x (slot_a b j.current j.other)) × PassesSome (x current) (x (slot_b b j.current j.other)) in
    subst P (sym first) (passes_same (x other) (x j.other) (ap x same), passes)
