-- What contracts see of a journal.
use Rattle.std.specs.Prelude.{Bool, true, ℕ, ◌≡◌, ◌<◌, List, Option, Some, refl}
use Rattle.std.specs.Coded.{Coded, code_by, coded×, coded_bool, coded_ℕ, coded_list}
use Rattle.frs_base.specs.Machines.{Rules}
use Rattle.frs_disk.specs.Alarms.{Alarm, Armed}
use Rattle.frs_disk.specs.Crashes.{Crash}
use Rattle.frs_disk.specs.Moments.{MayLeave, Now}
use Rattle.frs_journal.specs.Gates.{lands}
use Rattle.frs_journal.specs.Loads.{AnyMoment, LoadsLanded, LoadsStep, NowLeaves, StopsAt}
use Rattle.frs_journal.specs.Slots.{slot_a, slot_b}

-- the machine, the disks of the current slot and of the other one, whether the current one is slot b, the current slot's length in bytes, the number of commands, and whether the journal is shut
pub record State (M D : Type 0) : Type 0 where
  pub machine : M
  pub current : D
  pub other : D
  pub in_b : Bool
  pub end : ℕ
  pub serial : ℕ
  pub shut : Bool

-- it is stored as a tuple
abbrev pub state_code : {M D : Type 0} → Coded M → Coded D → Coded (State M D)
state_code {M = M} {D = D} m d =
    code_by (M × (D × (D × (Bool × (ℕ × (ℕ × Bool)))))) (coded× m (coded× d (coded× d (coded× coded_bool (coded× coded_ℕ (coded× coded_ℕ coded_bool))))))
    (λ s. (s.machine, (s.current, (s.other, (s.in_b, (s.end, (s.serial, s.shut)))))))
    (λ p. record { machine = p.0; current = p.1.0; other = p.1.1.0; in_b = p.1.1.1.0; end = p.1.1.1.1.0; serial = p.1.1.1.1.1.0; shut = p.1.1.1.1.1.1 }) (λ _. refl)

-- the disk of slot a
abbrev pub disk_a : {M D : Type 0} → State M D → D
disk_a s = slot_a s.in_b s.current s.other

-- the disk of slot b
abbrev pub disk_b : {M D : Type 0} → State M D → D
disk_b s = slot_b s.in_b s.current s.other

-- each two images are so that a crash might have left at some moment since
abbrev pub AtMoments : {M D : Type 0} → (D → Option (List Crash)) → (List ℕ → List ℕ → Type 0) → State M D → State M D → Type 0
AtMoments states Q old new = AnyMoment Q (states (disk_a old)) (states (disk_a new)) (states (disk_b old)) (states (disk_b new))

-- each two images are so that a crash may leave now
abbrev pub AtPresent : {M D : Type 0} → (D → Option (List Crash)) → (List ℕ → List ℕ → Type 0) → State M D → Type 0
AtPresent states Q new = NowLeaves Q (states (disk_a new)) (states (disk_b new))

-- a crash at some moment since might have left the state before, or the state after the command
abbrev pub KeepsOrSteps : {M D S C : Type 0} → (D → Option (List Crash)) → Rules S C → S → ℕ → C → State M D → State M D → Type 0
KeepsOrSteps states law state serial cmd old new = AtMoments states (LoadsStep law state serial cmd) old new

-- the device call that failed, of a commit's four, was one of the first two, and at each moment since a load gives the state before; or it was one of the last two
abbrev pub StopsWithin : {M D S C : Type 0} → (D → Option (List Crash)) → (D → Alarm) → Rules S C → S → ℕ → State M D → State M D → Type 0
StopsWithin states alarm law state serial old new =
    StopsAt law state serial (states (disk_a old)) (states (disk_a new)) (states (disk_b old)) (states (disk_b new)) (alarm old.current) (alarm new.current)

-- all but the machine, its current disk and what follows from the commands is as it was
pub record SameJournal {M D : Type 0} (old new : State M D) : Type 0 where
  pub other : new.other ≡ old.other
  pub in_b : new.in_b ≡ old.in_b
  pub end : new.end ≡ old.end
  pub serial : new.serial ≡ old.serial
  pub shut : new.shut ≡ old.shut

-- the machine's state, and the contents and alarm of the current disk, are as they were, and so is the rest
pub record IsUnchanged {M D S : Type 0} (state_of : M → S) (states : D → Option (List Crash)) (alarm : D → Alarm) (old new : State M D) : Type 0 where
  pub machine : state_of new.machine ≡ state_of old.machine
  pub disk : states new.current ≡ states old.current
  pub alarms : alarm new.current ≡ alarm old.current
  pub rest : SameJournal old new

-- what a read gives of the current slot is so, with each image of the other slot that a crash may leave now
abbrev pub AtReading : {M D : Type 0} → (D → Option (List Crash)) → (List ℕ → List ℕ → Type 0) → State M D → Type 0
AtReading states Q new =
    Now (λ s. (others : List ℕ) → MayLeave (states new.other) others → Q (slot_a new.in_b s.seen others) (slot_b new.in_b s.seen others)) (states new.current)

-- on a disk that fails where a call is armed alone, and leaves what was armed: the armed call was one of a commit's four, and the slots load, as they are read, to the state before or after by what it leaves
abbrev pub StopsAsArmed : {M D S C : Type 0} → (D → Option (List Crash)) → Alarm → Rules S C → S → ℕ → C → State M D → Type 0
StopsAsArmed states alarm law state serial cmd new =
    alarm.quiet ≡ true → alarm.exact ≡ true
    → (call : Armed) × (alarm.armed ≡ Some call) × (call.before < 4) × AtReading states (LoadsLanded law state serial cmd (lands call.before call.image)) new

-- a command that is ready, and the bytes of its record
pub record Spelt (R : Type 0) : Type 0 where
  pub ready : R
  pub body : List ℕ

-- it is stored as a pair
abbrev pub spelt_code : {R : Type 0} → Coded R → Coded (Spelt R)
spelt_code {R = R} r = code_by (R × List ℕ) (coded× r (coded_list coded_ℕ)) (λ s. (s.ready, s.body)) (λ p. record { ready = p.0; body = p.1 }) (λ _. refl)
