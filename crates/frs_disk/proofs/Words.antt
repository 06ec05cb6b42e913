-- What the armed call left of a function that makes several.
use Rattle.std.proofs.Common.{◌≡◌, ◌≤◌, ◌-◌, true, ℕ, List, [], ◌∷◌, sym, ap, ◌∙◌, subst, inl, inr, arith, Option, Some, None}
use Rattle.std.proofs.lemmas.Bool.{false≢true}
use Rattle.std.specs.Prelude.{IfSome}
use Rattle.frs_disk.specs.Alarms.{Alarm, Armed, Fails, FailsAt, LeftAt, LeftByArmed, Passes, changes, less, syncs}
use Rattle.frs_disk.specs.Crashes.{Crash, lost, synced}
use Rattle.frs_disk.specs.Moments.{pushed}
use Rattle.frs_disk.specs.declared.image.Image.{Image}
use Rattle.frs_disk.proofs.Ringing.{fails_first, fails_on}

-- calls that pass leave the armed image
pub left_less : (done undone : Crash → Crash) (n : ℕ) (o : Option Armed) (old new : Option (List Crash)) → LeftByArmed done undone (less n o) old new → LeftByArmed done undone o old new
left_less done undone n None old new h = tt
left_less done undone n (Some armed) old new h = h

pub exact_on : (n : ℕ) (a b : Alarm) → Passes n a b → a.exact ≡ true → b.exact ≡ true
exact_on n a b passes exact = ap (λ (x : Alarm). x.exact) passes.now ∙ exact

-- the second of two calls failed
pub second_word : (change : Crash → Crash) (a b c : Alarm) (old mid new : Option (List Crash)) → Passes 1 a b → Fails b c → mid ≡ pushed change old
    → (b.exact ≡ true → LeftByArmed synced lost b.armed mid new) → a.exact ≡ true → (n : ℕ) × FailsAt n a c × LeftAt n (changes change ∷ syncs ∷ []) a.armed old new
second_word change a b c old mid new passes fails is left exact =
    let P : Option Armed → Type 0 = λ o. LeftByArmed synced lost o mid new in
    let Q : Option (List Crash) → Type 0 = λ m. LeftByArmed synced lost a.armed m new in
    let at : LeftByArmed synced lost (less 1 a.armed) mid new = subst P (ap (λ (x : Alarm). x.armed) passes.now) (left (exact_on 1 a b passes exact)) in
    (1, fails_on 1 0 a b c passes (fails_first b c fails), subst Q is (left_less synced lost 1 a.armed mid new at))

abbrev before_or_none : Option Armed → ℕ
before_or_none None = 0
before_or_none (Some call) = call.before

armed_by_less : (n : ℕ) (o : Option Armed) (image : Option Image) → IfSome o (λ call. n ≤ call.before) → less n o ≡ Some (record { before = 0; image = image })
    → (left : Option Image) × (o ≡ Some (record { before = n; image = left }))
armed_by_less n None image some is = absurd cc
armed_by_less n (Some call) image some is =
    let none : call.before - n ≡ 0 = ap before_or_none is in
    let same : call.before ≡ n = omega (arith, none, some) in
    (call.image, ap (λ (k : ℕ). Some (record { before = k; image = call.image })) same)

-- the call that failed, of a disk that fails where a call is armed alone, was the armed one
pub armed_is : (n : ℕ) (a b : Alarm) → FailsAt n a b → a.quiet ≡ true → (image : Option Image) × (a.armed ≡ Some (record { before = n; image = image }))
armed_is n a b (mid, passes, inl rings) quiet = armed_by_less n a.armed rings.image passes.before (sym (ap (λ (x : Alarm). x.armed) passes.now) ∙ rings.reached)
armed_is n a b (mid, passes, inr breaks) quiet = absurd (false≢true (sym breaks.loud ∙ ap (λ (x : Alarm). x.quiet) passes.now ∙ quiet))
