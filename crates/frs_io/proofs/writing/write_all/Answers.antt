use Rattle.std.proofs.Common.{◌≡◌, ℕ, ◌-◌, List, ◌++◌, length, take, drop, sym, ap, ◌∙◌, subst, append_assoc, take-append-drop, arith}
use Rattle.std.proofs.lemmas.List.{take_rest}
use Rattle.std.specs.declared.option.Option.{Option}
use Rattle.frs_io.specs.Told.{Takes, TakesSome}
use Rattle.frs_io.proofs.Told.{Takes-trans, TakesSome-of_Takes, TakesSome-append}
use Rattle.frs_io.proofs.Outcomes.{OnErr-of_fact}
use Rattle.frs_io.proofs.writing.write_all.Goals as goal

-- what was taken and what is left are all
moved_front : (all done rest : List ℕ) (n : ℕ) → all ≡ done ++ rest → all ≡ (done ++ take n rest) ++ take (length rest - n) (drop n rest)
moved_front all done rest n e =
    e ∙ ap (λ l. done ++ l) (sym (take-append-drop n rest)) ∙ sym (append_assoc done (take n rest) (drop n rest)) ∙ ap (λ l. (done ++ take n rest) ++ l) (sym (take_rest rest n))

-- the sink took the front
some_of : (old mid new : Option (List ℕ)) (all done rest : List ℕ) → all ≡ done ++ rest → Takes old mid done → new ≡ mid → TakesSome old new all
some_of old mid new all done rest split taken same =
    subst (TakesSome old new) (sym split) (TakesSome-append old new done rest (TakesSome-of_Takes old new done (same ∙ taken)))

pub loop-rest-preserved : goal.loop-rest-preserved
loop-rest-preserved g c =
    let (done, split, taken) = c.loop-rest.invariant.moved in
    let rest = c.loop-rest.rest.now in
    let n = c.in_ok-count.count in
    record {
      later = omega (arith, c.in_ok-count.ensures.cause.later);
      moved = (done ++ take n rest, moved_front _ done rest n split, Takes-trans _ _ _ done (take n rest) taken c.in_ok-count.ensures.taken);
    }

pub returns-in_err-count-clause-err : goal.returns-in_err-count-clause-err
returns-in_err-count-clause-err g c =
    let (done, split, taken) = c.loop-rest.invariant.moved in
    OnErr-of_fact _ (some_of _ _ _ _ done _ split taken c.in_err-count.ensures.taken)
