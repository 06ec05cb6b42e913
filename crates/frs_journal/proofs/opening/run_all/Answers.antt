use Rattle.std.proofs.Common.{rules, ◌≡◌, List, ◌∷◌, [], sym, subst, length, arith, refl}
use Rattle.frs_base.specs.Machines.{Runs}
use Rattle.frs_journal.proofs.opening.run_all.Goals as goal

no_items : {C : Type 0} (xs : List C) → length xs ≡ 0 → xs ≡ []
no_items [] e = refl
no_items (x ∷ xs) e = absurd (omega (arith, e))

pub loop-command-preserved : goal.loop-command-preserved
loop-command-preserved g c = λ t runs.
    let law = g.M.Machine.law in
    let st = g.M.Machine.state in
    let first = rw (c.ready.ensures.same, c.in_ok-ready.ensures.ready.0) at c.take.ensures in
    let P : List _ → Type 0 = λ l. Runs law.step (st c.loop-command.machine) l t in
    c.loop-command.invariant t (subst P (sym c.in-Some.ensures.steps.0) (st c.take.new.self, first, runs))

pub returns : goal.returns
returns g c =
    let n : length c.loop-command.command-iterator.rest.items ≡ 0 = search rules in
    let st = g.M.Machine.state in
    let P : List _ → Type 0 = λ l. Runs g.M.Machine.law.step (st c.loop-command.machine) l (st c.loop-command.machine) in
    c.loop-command.invariant (st c.loop-command.machine) (subst P (sym (no_items c.loop-command.command-iterator.rest.items n)) refl)
