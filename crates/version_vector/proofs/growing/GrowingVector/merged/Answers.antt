use Rattle.std.proofs.Common.{◌≡◌, ◌∙◌, ◌||◌, ℕ, Bool, length, rules, arith, subst}
use Rattle.frs_base.specs.declared.version.Gvsn.{Gvsn}
use Rattle.version_vector.specs.Limits.{IsOver, IsTooLong}
use Rattle.version_vector.specs.Versions.{covers}
use Rattle.version_vector.proofs.LimitLemmas.{too_long}
use Rattle.version_vector.proofs.growing.GrowingVector.merged.Goals as goal

pub returns-in_err-within_limit-clause-full : goal.returns-in_err-within_limit-clause-full
returns-in_err-within_limit-clause-full c =
    let e = c.in_err-within_limit.field-0.0 in
    let items = c.in_ok-found.found.items in
    let len : c.len.result ≡ length items = omega arith in
    let over : IsOver e (length items) = subst (λ (n : ℕ). IsOver e n) len c.in_err-within_limit.ensures.full in
    let set : Gvsn → Bool = λ h. covers c.args.other.now h || covers c.args.self.now.items h in
    let alike : (h : Gvsn) → covers items h ≡ set h =
    λ h. c.in_ok-found.ensures.set h ∙ (λ i. covers (c.intervals-2.ensures.intervals i) h || covers (c.intervals.ensures.intervals i) h) in
    let full : IsTooLong e set = too_long e items set c.in_ok-found.ensures.form alike over in
    search rules
