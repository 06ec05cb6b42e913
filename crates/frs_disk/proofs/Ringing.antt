-- Calls one after the other, as an alarm counts them.
use Rattle.std.proofs.Common.{◌≡◌, ◌≤◌, ◌+◌, ◌-◌, ℕ, refl, sym, ap, ◌∙◌, subst, inl, inr, arith, Option, Some, None}
use Rattle.std.specs.Prelude.{IfSome}
use Rattle.frs_disk.specs.Alarms.{Alarm, Armed, Rose, raised, less, Passes, PassesSome, Fails, FailsAt, FailsSome}

less_less : (m n : ℕ) (o : Option Armed) → less n (less m o) ≡ less (m + n) o
less_less m n None = refl
less_less m n (Some k) = let e : k.before - m - n ≡ k.before - (m + n) = omega arith in ap (λ (x : ℕ). Some (record { before = x; image = k.image })) e

before_less : (m n : ℕ) (o : Option Armed) → IfSome o (λ k. m ≤ k.before) → IfSome (less m o) (λ k. n ≤ k.before) → IfSome o (λ k. m + n ≤ k.before)
before_less m n None h k = tt
before_less m n (Some x) h k = omega arith

-- calls that pass, and then more that pass
pub passes_on : (m n : ℕ) (a b c : Alarm) → Passes m a b → Passes n b c → Passes (m + n) a c
passes_on m n a b c h k =
    let P : Alarm → Type 0 = λ x. IfSome x.armed (λ k. n ≤ k.before) in
    let Q : Alarm → Type 0 = λ x. c ≡ record x { armed = less n x.armed } in
    record {
      before = before_less m n a.armed h.before (subst P h.now k.before);
      now = subst Q h.now k.now ∙ ap (λ (o : Option Armed). record a { armed = o }) (less_less m n a.armed);
    }

-- calls that pass, and then one that fails
pub fails_on : (m n : ℕ) (a b c : Alarm) → Passes m a b → FailsAt n b c → FailsAt (m + n) a c
fails_on m n a b c h (mid, k, fails) = (mid, passes_on m n a b mid h k, fails)

less_none : (o : Option Armed) → less 0 o ≡ o
less_none None = refl
less_none (Some k) = let e : k.before - 0 ≡ k.before = omega arith in ap (λ (x : ℕ). Some (record { before = x; image = k.image })) e

before_none : (o : Option Armed) → IfSome o (λ k. 0 ≤ k.before)
before_none None = tt
before_none (Some k) = omega arith

-- no call passes nothing by
pub passes_none : (a : Alarm) → Passes 0 a a
passes_none a = record { before = before_none a.armed; now = ap (λ (o : Option Armed). record a { armed = o }) (sym (less_none a.armed)) }

-- the first call failed
pub fails_first : (a b : Alarm) → Fails a b → FailsAt 0 a b
fails_first a b h = (a, passes_none a, h)

-- where nothing was done, no call failed
pub passes_same : (a b : Alarm) → b ≡ a → PassesSome a b
passes_same a b same = let P : Alarm → Type 0 = λ x. PassesSome a x in subst P (sym same) (0, passes_none a)

pub passes_from : (n : ℕ) (a b c : Alarm) → b ≡ a → Passes n b c → Passes n a c
passes_from n a b c same h = let P : Alarm → Type 0 = λ x. Passes n x c in subst P same h

-- some calls, and then more
pub passes_some : (a b c : Alarm) → PassesSome a b → PassesSome b c → PassesSome a c
passes_some a b c (m, h) (n, k) = (m + n, passes_on m n a b c h k)

pub fails_some : (a b c : Alarm) → PassesSome a b → FailsSome b c → FailsSome a c
fails_some a b c (m, h) (n, k) = (m + n, fails_on m n a b c h k)

pub fails_now : (a b : Alarm) → Fails a b → FailsSome a b
fails_now a b h = (0, fails_first a b h)

-- where calls pass, no count moves
pub passes_faults : (n : ℕ) (a b : Alarm) → Passes n a b → b.faults ≡ a.faults
passes_faults n a b h = ap (λ (x : Alarm). x.faults) h.now

-- where a call fails, the count of faults rises
pub fails_rose : (a b : Alarm) → Fails a b → Rose a.faults b.faults
fails_rose a b (inl rings) = let e : b.faults ≡ raised a.faults = ap (λ (x : Alarm). x.faults) rings.now in omega (arith, e)
fails_rose a b (inr breaks) = breaks.faults

pub fails_at_rose : (n : ℕ) (a b : Alarm) → FailsAt n a b → Rose a.faults b.faults
fails_at_rose n a b (mid, passes, fails) =
    let P : ℕ → Type 0 = λ x. Rose x b.faults in subst P (passes_faults n a mid passes) (fails_rose mid b fails)
