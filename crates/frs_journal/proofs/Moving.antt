-- From what a call's parts say to what it says.
use Rattle.std.proofs.Common.{◌≡◌, ◌≤◌, ℕ, ◌-◌, ◌^◌, Bool, true, false, List, refl, sym, ap, ◌∙◌, subst, inl, inr, Option}
use Rattle.frs_base.specs.Machines.{Rules}
use Rattle.frs_disk.specs.Alarms.{Alarm, FailsAt, Rose}
use Rattle.frs_disk.specs.Crashes.{Crash}
use Rattle.frs_disk.specs.Moments.{MightLeave}
use Rattle.frs_journal.specs.Faults.{IsApplyFault, IsCommitFault, IsDiskFault, IsRefused}
use Rattle.frs_journal.specs.Gates.{FailsEarly}
use Rattle.frs_journal.specs.Loads.{AnyMoment, Loads, LoadsStep, StopsAt}
use Rattle.frs_journal.specs.Rests.{AtOnce, Kept}
use Rattle.frs_journal.specs.Slots.{slot_a, slot_b}
use Rattle.frs_journal.specs.State.{State, StopsAsArmed}
use Rattle.frs_journal.specs.declared.faults.ApplyFault.{ApplyFault}
use Rattle.frs_journal.specs.declared.faults.ApplyFault.TheVariants.{Memory, DiskFault, JournalFull, Shut}
use Rattle.frs_journal.proofs.Commits.{always_any, any_same, commit_early}

-- what a call says that made no call of a device
pub refused_crash : {D : Type 0} (f : D → Option (List Crash)) (Q : List ℕ → List ℕ → Type 0) (in_b in_b' : Bool) (c c' d d' : D)
    → in_b' ≡ in_b → f c' ≡ f c → d' ≡ d → AtOnce (λ x y. Q (slot_a in_b x y) (slot_b in_b x y)) (f c) (f d)
    → AnyMoment Q (f (slot_a in_b c d)) (f (slot_a in_b' c' d')) (f (slot_b in_b c d)) (f (slot_b in_b' c' d'))
refused_crash f Q in_b in_b' c c' d d' same_b same_c same_d once =
    let P : Bool → Type 0 = λ b. AnyMoment Q (f (slot_a in_b c d)) (f (slot_a b c' d')) (f (slot_b in_b c d)) (f (slot_b b c' d')) in
    subst P (sym same_b) (always_any f in_b Q c c' d d' (any_same (λ x y. Q (slot_a in_b x y) (slot_b in_b x y)) (f c) (f c') (f d) (f d') once same_c (ap f same_d)))

-- the slots are as they were
a_same : {D : Type 0} (f : D → Option (List Crash)) (b : Bool) (c c' d d' : D) → f c' ≡ f c → d' ≡ d → f (slot_a b c' d') ≡ f (slot_a b c d)
a_same f true c c' d d' same_c same_d = ap f same_d
a_same f false c c' d d' same_c same_d = same_c

b_same : {D : Type 0} (f : D → Option (List Crash)) (b : Bool) (c c' d d' : D) → f c' ≡ f c → d' ≡ d → f (slot_b b c' d') ≡ f (slot_b b c d)
b_same f true c c' d d' same_c same_d = same_c
b_same f false c c' d d' same_c same_d = ap f same_d

pub slot_a_same : {D : Type 0} (f : D → Option (List Crash)) (b b' : Bool) (c c' d d' : D) → b' ≡ b → f c' ≡ f c → d' ≡ d → f (slot_a b' c' d') ≡ f (slot_a b c d)
slot_a_same f b b' c c' d d' same_b same_c same_d = ap (λ x. f (slot_a x c' d')) same_b ∙ a_same f b c c' d d' same_c same_d

pub slot_b_same : {D : Type 0} (f : D → Option (List Crash)) (b b' : Bool) (c c' d d' : D) → b' ≡ b → f c' ≡ f c → d' ≡ d → f (slot_b b' c' d') ≡ f (slot_b b c d)
slot_b_same f b b' c c' d d' same_b same_c same_d = ap (λ x. f (slot_b x c' d')) same_b ∙ b_same f b c c' d d' same_c same_d

-- the moments since an equal beginning
pub moments_from : (Q R : List ℕ → List ℕ → Type 0) (a a' an b b' bn : Option (List Crash)) → ((x y : List ℕ) → R x y → Q x y) → a' ≡ a → b' ≡ b
    → AnyMoment R a' an b' bn → AnyMoment Q a an b bn
moments_from Q R a a' an b b' bn f same_a same_b any = λ x y ma mb.
    (let A : Option (List Crash) → Type 0 = λ o. MightLeave o an x in
    let B : Option (List Crash) → Type 0 = λ o. MightLeave o bn y in
    f x y (any x y (subst A (sym same_a) ma) (subst B (sym same_b) mb)))

module _ {M C : Type 0} (law : Rules M C) where
  pub loads_from : (m m' : M) (k k' : ℕ) (x y : List ℕ) → m' ≡ m → k' ≡ k → Loads law m' k' x y → Loads law m k x y
  loads_from m m' k k' x y same_m same_k loads =
      let P : M → Type 0 = λ s. Loads law s k x y in
      let Q : ℕ → Type 0 = λ n. Loads law m' n x y in
      subst P same_m (subst Q same_k loads)

  pub steps_from : (m m' : M) (k k' : ℕ) (z z' : C) (x y : List ℕ) → m' ≡ m → k' ≡ k → z' ≡ z → LoadsStep law m' k' z' x y → LoadsStep law m k z x y
  steps_from m m' k k' z z' x y same_m same_k same_z loads =
      let P : M → Type 0 = λ s. LoadsStep law s k z x y in
      let Q : ℕ → Type 0 = λ n. LoadsStep law m' n z x y in
      let R : C → Type 0 = λ c. LoadsStep law m' k' c x y in
      subst P same_m (subst Q same_k (subst R same_z loads))

  pub commit_stops : {D : Type 0} (f : D → Option (List Crash)) (m : M) (in_b : Bool) (end serial : ℕ) (c c' d : D) (x y : Alarm)
      → Kept law m in_b end serial (f c) (f d) → FailsEarly (end - 1) x y (f c) (f c')
      → StopsAt law m serial (f (slot_a in_b c d)) (f (slot_a in_b c' d)) (f (slot_b in_b c d)) (f (slot_b in_b c' d)) x y
  commit_stops f m in_b end serial c c' d x y kept (inl (k, less, fails, shuts)) =
      inl (k, less, fails, always_any f in_b (Loads law m serial) c c' d d (commit_early law m in_b end serial (f c) (f c') (f d) (f d) kept shuts refl))
  commit_stops f m in_b end serial c c' d x y kept (inr late) = inr late

  pub stops_from : (m m' : M) (k k' : ℕ) (a a' an b b' bn : Option (List Crash)) (x x' y : Alarm) → m' ≡ m → k' ≡ k → a' ≡ a → b' ≡ b → x' ≡ x
      → StopsAt law m' k' a' an b' bn x' y → StopsAt law m k a an b bn x y
  stops_from m m' k k' a a' an b b' bn x x' y same_m same_k same_a same_b same_x (inl (n, less, fails, any)) =
      let P : Alarm → Type 0 = λ z. FailsAt n z y in
      inl (n, less, subst P same_x fails, moments_from (Loads law m k) (Loads law m' k') a a' an b b' bn (λ c d l. loads_from m m' k k' c d same_m same_k l) same_a same_b any)
  stops_from m m' k k' a a' an b b' bn x x' y same_m same_k same_a same_b same_x (inr (n, more, less, fails)) =
      let P : Alarm → Type 0 = λ z. FailsAt n z y in
      inr (n, more, less, subst P same_x fails)

  pub armed_from : {N D : Type 0} (f : D → Option (List Crash)) (new : State N D) (a a' : Alarm) (m m' : M) (k k' : ℕ) (z z' : C) → a' ≡ a → m' ≡ m → k' ≡ k → z' ≡ z
      → StopsAsArmed f a' law m' k' z' new → StopsAsArmed f a law m k z new
  armed_from f new a a' m m' k k' z z' same_a same_m same_k same_z h =
      let A : Alarm → Type 0 = λ x. StopsAsArmed f x law m k z new in
      let P : M → Type 0 = λ s. StopsAsArmed f a' law s k z new in
      let Q : ℕ → Type 0 = λ n. StopsAsArmed f a' law m' n z new in
      let R : C → Type 0 = λ c. StopsAsArmed f a' law m' k' c new in
      subst A same_a (subst P same_m (subst Q same_k (subst R same_z h)))

-- faults
pub no_device : (e : ApplyFault) (b : Bool) (n : ℕ) → IsRefused e b n → IsDiskFault e → ⊥
no_device Memory b n h k = k
no_device (DiskFault count) b n h k = h
no_device (JournalFull m) b n h k = k
no_device Shut b n h k = k

pub refused_fault : (e : ApplyFault) (b : Bool) (n before now : ℕ) → IsRefused e b n → IsApplyFault e b n before now
refused_fault Memory b n before now h = tt
refused_fault (DiskFault count) b n before now h = absurd h
refused_fault (JournalFull m) b n before now h = h
refused_fault Shut b n before now h = h

pub commit_fault : (e : ApplyFault) (b : Bool) (n before before' now : ℕ) → before' ≡ before → n ≤ 2 ^ 32 → IsCommitFault e before' now → IsApplyFault e b n before now
commit_fault Memory b n before before' now same fits h = tt
commit_fault (DiskFault count) b n before before' now same fits h = let P : ℕ → Type 0 = λ x. Rose x now in (h.0, subst P same h.1, fits)
commit_fault (JournalFull m) b n before before' now same fits h = absurd h
commit_fault Shut b n before before' now same fits h = absurd h

pub commit_device : (e : ApplyFault) (before now : ℕ) → IsCommitFault e before now → IsDiskFault e
commit_device Memory before now h = h
commit_device (DiskFault count) before now h = tt
commit_device (JournalFull m) before now h = h
commit_device Shut before now h = h
