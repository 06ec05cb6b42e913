use Rattle.std.proofs.Common.{◌≡◌, ◌<◌, ◌||◌, ◌∙◌, ℕ, Bool, ap, arith, rules, subst, length}
use Rattle.frs_base.specs.Versions.{same_gvsn}
use Rattle.frs_base.specs.declared.version.Gvsn.{Gvsn}
use Rattle.version_vector.specs.Limits.{IsOver, IsTooLong}
use Rattle.version_vector.specs.Places.{one_version}
use Rattle.version_vector.specs.Unions.{inserted}
use Rattle.version_vector.specs.Versions.{covers}
use Rattle.version_vector.specs.declared.interval.Interval.{Interval}
use Rattle.version_vector.proofs.LimitLemmas.{too_long}
use Rattle.version_vector.proofs.Insertions.{adds_version, inserted_form}
use Rattle.version_vector.proofs.growing.GrowingVector.reserve.Goals as goal

pub returns-in_err-within_limit-clause-full : goal.returns-in_err-within_limit-clause-full
returns-in_err-within_limit-clause-full c =
    let n = one_version c.args.g in
    let all = c.args.self.now.items in
    let full : n.low < n.high = omega arith in
    let canonical = c.intervals.ensures.canonical in
    let count = c.count_with.ensures ∙ ap (λ (i : Interval). length (inserted i c.intervals.result.now)) c.of_version.ensures ∙ ap (λ l. length (inserted n l)) c.intervals.ensures.intervals in
    let over : IsOver c.in_err-within_limit.field-0.0 (length (inserted n all)) = subst (λ (k : ℕ). IsOver c.in_err-within_limit.field-0.0 k) count c.in_err-within_limit.ensures.full in
    let e = c.in_err-within_limit.field-0.0 in
    let set : Gvsn → Bool = λ h. same_gvsn c.args.g h || covers all h in
    let long : IsTooLong e set = too_long e (inserted n all) set (inserted_form n all full canonical) (adds_version c.args.g all canonical) over in
    search rules
