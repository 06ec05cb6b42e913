-- Each member has one answer to what it does next.
use Rattle.std.proofs.Common.{◌≡◌, ◌⊎◌, ◌<◌, ◌≤◌, ◌+◌, ◌-◌, ℕ, zero, suc, Bool, true, false, ltb, refl, sym, ap, ◌∙◌, subst, arith, inl, inr, Option, Some, None}
use Rattle.std.proofs.lemmas.Bool.{cases_eq}
use Rattle.std.proofs.lemmas.Bool.Decides.{nat_tests}
use Rattle.frs_base.specs.declared.sum.Sum.{Sum}
use Rattle.frs_base.specs.declared.version.Uid.{Uid}
use Rattle.win_order.specs.declared.update.Update.{Update}
use Rattle.vol_state.specs.declared.record.VolRecord.{VolRecord}
use Rattle.vol_state.specs.Maps.{Maps}
use Rattle.name_rules.specs.Next.{IsAnswer, IsFirstPending, IsPendingAt, IsQuiet}
use Rattle.name_rules.specs.declared.step.Next.{Next as InstallNext}
use Rattle.name_rules.specs.declared.step.Next.TheVariants as install_next
use Rattle.world_model.specs.World.{IsRecordOf}
use Rattle.world_model.specs.Invariant.{NumbersAreFresh, PlacesAreATree}
use Rattle.world_model.specs.Laws.{MembersHaveOneAnswer}
use Rattle.world_model.proofs.Facts.{none_some, some_is, true_false}
use Rattle.world_model.proofs.Deciding.{IsListed, records_listed, true_decided}
use Rattle.world_model.proofs.Next.{goes_on, no_candidate, one_step}

-- ---- the first local record that isn't consumed

-- no local record is left below
abbrev NoneBelow : ℕ → Maps → ℕ → Type 0
NoneBelow consumed m n = (j : ℕ) (r : VolRecord) → consumed ≤ j → j < n → m.entry j ≡ Some r → r.local ≡ false

-- so each is at or past this USN
at_or_past : (consumed : ℕ) (m : Maps) (n : ℕ) → NoneBelow consumed m n → (j : ℕ) → IsPendingAt consumed m j → n ≤ j
at_or_past consumed m n none j (r, past, at, local) = elim (true_decided (ltb j n)) [
  | inl e ↦ (let low : j < n = grind (arith, nat_tests, e) in absurd (true_false r.local local (none j r past low at)))
  | inr k ↦ (grind (arith, nat_tests, k))
]

-- one more isn't local
none_below : (consumed : ℕ) (m : Maps) (n : ℕ) → NoneBelow consumed m n → ((r : VolRecord) → m.entry n ≡ Some r → r.local ≡ false) → NoneBelow consumed m (n + 1)
none_below consumed m n none here j r past low at = elim (cases_eq j n) [
  | inl e ↦ here r (subst (λ i. m.entry i ≡ Some r) e at)
  | inr k ↦ none j r past (omega (arith, low, k)) at
]

-- the first one, or that there is none
abbrev Found : ℕ → Maps → Type 0
Found consumed m = ((usn : ℕ) × IsFirstPending consumed m usn) ⊎ IsQuiet consumed m

found : (consumed : ℕ) (m : Maps) (k n : ℕ) → n + k ≡ m.next_usn → ((j : ℕ) (r : VolRecord) → m.entry j ≡ Some r → j < m.next_usn) → consumed ≤ n → NoneBelow consumed m n → Found consumed m
found consumed m zero n e below past none = inr (λ j r from at. (let l = below j r at in none j r from (omega (arith, l, e)) at))
found consumed m (suc k) n e below past none = by (m.entry n) refl (λ more. found consumed m k (n + 1) (omega (arith, e)) below (omega (arith, past)) more)
  where
    here : (r : VolRecord) → m.entry n ≡ Some r → (b : Bool) → r.local ≡ b → (NoneBelow consumed m (n + 1) → Found consumed m) → Found consumed m
    here r at true local on = inl (n, record { pending = (r, past, at, local); least = at_or_past consumed m n none })
    here r at false local on = on (none_below consumed m n none (λ q there. ap (λ z. z.local) (some_is q r (sym there ∙ at)) ∙ local))

    by : (x : Option VolRecord) → m.entry n ≡ x → (NoneBelow consumed m (n + 1) → Found consumed m) → Found consumed m
    by None at on = on (none_below consumed m n none (λ q there. absurd (none_some q (sym at ∙ there))))
    by (Some r) at on = here r at r.local refl on

not_quiet : (consumed : ℕ) (m : Maps) (usn : ℕ) → IsPendingAt consumed m usn → IsQuiet consumed m → ⊥
not_quiet consumed m usn (r, past, at, local) quiet = true_false r.local local (quiet usn r past at)

-- ---- the answer

-- there is one at most
pub one_answer : (R : Update → Type 0) (own : ℕ) (m : Maps) (staged : Uid → Option Sum) (consumed : ℕ) → ((n : ℕ) (r : VolRecord) → m.entry n ≡ Some r → n < m.next_usn)
    → (a b : InstallNext) → IsAnswer R own m staged consumed a → IsAnswer R own m staged consumed b → a ≡ b
one_answer R own m staged consumed entries (install_next.NotYet n) (install_next.NotYet k) a b = ap install_next.NotYet (same (a.least k b.pending) (b.least n a.pending))
  where
    same : n ≤ k → k ≤ n → n ≡ k
    same p q = omega (arith, p, q)
one_answer R own m staged consumed entries (install_next.NotYet n) (install_next.Do step) a b = absurd (not_quiet consumed m n a.pending b.0)
one_answer R own m staged consumed entries (install_next.NotYet n) install_next.Drained a b = absurd (not_quiet consumed m n a.pending b.quiet)
one_answer R own m staged consumed entries install_next.Drained (install_next.NotYet n) a b = absurd (not_quiet consumed m n b.pending a.quiet)
one_answer R own m staged consumed entries install_next.Drained (install_next.Do step) a b = absurd (no_candidate R own m staged consumed entries a step b.1.candidate)
one_answer R own m staged consumed entries install_next.Drained install_next.Drained a b = refl
one_answer R own m staged consumed entries (install_next.Do step) (install_next.NotYet n) a b = absurd (not_quiet consumed m n b.pending a.0)
one_answer R own m staged consumed entries (install_next.Do step) install_next.Drained a b = absurd (no_candidate R own m staged consumed entries b step a.1.candidate)
one_answer R own m staged consumed entries (install_next.Do step) (install_next.Do other) a b = ap install_next.Do (one_step step other (b.1.first step a.1.candidate) (a.1.first other b.1.candidate))

-- and there is one
pub has_answer : (R : Update → Type 0) → IsListed R → (own : ℕ) (m : Maps) (staged : Uid → Option Sum) (consumed : ℕ) → PlacesAreATree own m → NumbersAreFresh m consumed → 9 ≤ consumed
    → (next : InstallNext) × IsAnswer R own m staged consumed next
has_answer R l own m staged consumed places numbers begun =
    elim (found consumed m (m.next_usn - consumed) consumed (omega (arith, most)) numbers.entries (omega arith) (λ j r past low at. absurd (omega (arith, past, low)))) [
      | inl (usn, first) ↦ (install_next.NotYet usn, first)
      | inr quiet ↦ elim (goes_on R l own m staged consumed places numbers begun quiet) [
        | inl drained ↦ (install_next.Drained, drained)
        | inr (step, next, turn) ↦ (install_next.Do step, (quiet, next))
      ]
    ]
  where
    most : consumed ≤ m.next_usn
    most = numbers.consumed_is

pub members_have_one_answer : MembersHaveOneAnswer
members_have_one_answer w h d =
    let (next, a) = has_answer (IsRecordOf w d) (records_listed w.all (w.at d).known h.versions.one_each) d (w.at d).volume (w.at d).staged (w.at d).consumed (h.members d).places (h.members d).numbers (h.versions.begun d) in
    (next, a, λ other b. one_answer (IsRecordOf w d) d (w.at d).volume (w.at d).staged (w.at d).consumed (h.members d).numbers.entries other next b a)
