use Rattle.std.proofs.Common.{◌≡◌, ◌∙◌, ℕ, [], false, replicate, sym, ap, subst, arith}
use Rattle.name_rules.specs.Shown.{AreFlagged}
use Rattle.name_rules.proofs.Flags.{none_up}
use Rattle.name_rules.proofs.descent.Reached.none.Goals as goal

pub returns-clause-flagged : goal.returns-clause-flagged
returns-clause-flagged c =
    let end : c.loop-place._place ≡ c.args.count = omega (arith, c.loop-place-test.false, c.loop-place.auto._place-end) in
    let down = c.loop-place.invariant ∙ ap (λ (n : ℕ). replicate n false) end in
    subst (λ q. AreFlagged c.args.count c.loop-place.flags.items q) (sym c.new-queue.ensures.items)
    (subst (λ fs. AreFlagged c.args.count fs []) (sym down) (none_up c.args.count))
