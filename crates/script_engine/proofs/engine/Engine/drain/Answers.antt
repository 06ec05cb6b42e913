use Rattle.std.proofs.Common.{◌≡◌, ◌<◌, ◌+◌, ◌*◌, ◌^◌, ◌++◌, ◌∷◌, ◌∙◌, [], Some, None, Ok, Err, subst, arith}
use Rattle.std.proofs.lemmas.List.{length-append, length-map}
use Rattle.frs_base.specs.Identifiers.{database_of}
use Rattle.script_engine.specs.Engines.{local_by_all, unconsumed_by_all}
use Rattle.script_engine.specs.Installing.{Installs}
use Rattle.script_engine.specs.Scene.{in_world}
use Rattle.script_engine.proofs.Beginning.{on_err}
use Rattle.script_engine.proofs.Drained.{at_end, one_more}
use Rattle.script_engine.proofs.Events.{drain_few}
use Rattle.script_engine.proofs.engine.Engine.drain.Goals as goal

pub loop-steps-preserved : goal.loop-steps-preserved
loop-steps-preserved c =
    let i = c.loop-steps.invariant in
    let e = c.in_ok-install.ensures in
    let outcome : c.in_ok-install.field-0 ≡ Ok (Some c.in-Ok-Some.field-0-0) = let a = c.in-Ok-Some.is in let b = c.in-Ok-Some.field-0-is in cc in
    record {
      within = let before = i.within in let many = c.install.ensures.many in omega (arith, before, many);
      scene = let (s, stands) = i.scene in let (w, next, on) = e.ok s stands in (in_world s w, on);
      names = c.install.ensures.names ∙ i.names;
      many = c.install.ensures.many ∙ i.many;
      made = e.made ∙ i.made;
      ran = λ s stands.
          let d = database_of (c.args.at + 1) in
          let (mid, steps, some, count, there) = i.ran s stands in
          let (w, next, on) = e.ok (in_world s mid) there in
          let one = subst (λ o. Installs (in_world s mid) d o w) outcome next in
          (w, steps ++ c.in-Ok-Some.field-0-0 ∷ [], one_more s d steps mid c.in-Ok-Some.field-0-0 w some one, (omega (arith, count, length-append steps (c.in-Ok-Some.field-0-0 ∷ []))), on);
    }

-- so few were done before
few : (c : goal.In-Ok-Some) → (c.loop-steps.steps < 8 * local_by_all c.args.self.now + unconsumed_by_all c.args.self.now) × (c.loop-steps.steps + 1 < 2 ^ 128)
few c =
    let d = database_of (c.args.at + 1) in
    let outcome : c.in_ok-install.field-0 ≡ Ok (Some c.in-Ok-Some.field-0-0) = let a = c.in-Ok-Some.is in let b = c.in-Ok-Some.field-0-is in cc in
    let (s, stands) = c.requires.scene in
    let (mid, steps, some, count, there) = c.loop-steps.invariant.ran s stands in
    let (w, next, on) = c.in_ok-install.ensures.ok (in_world s mid) there in
    let many = length-map c.args.self.now.folders.items (λ f. f.machine) in
    let inside = c.requires.within in
    let (bound, fits) = drain_few c.args.self.now s c.args.at steps mid c.in-Ok-Some.field-0-0 w stands (omega (arith, inside, many)) c.requires.room some (subst (λ o. Installs (in_world s mid) d o w) outcome next) in
    (omega (arith, bound, count), omega (arith, fits, count))

pub overflow_add-steps : goal.overflow_add-steps
overflow_add-steps c = let (bound, fits) = few c in omega (arith, fits)

pub loop-steps-smaller : goal.loop-steps-smaller
loop-steps-smaller c = let (bound, fits) = few c in omega (arith, bound)

pub returns-in-Ok-None-clause-ok : goal.returns-in-Ok-None-clause-ok
returns-in-Ok-None-clause-ok c = λ s stands.
    let d = database_of (c.args.at + 1) in
    let outcome : c.in_ok-install.field-0 ≡ Ok None = let a = c.in-Ok-None.is in let b = c.in-Ok-None.field-0-is in cc in
    let (mid, steps, some, count, there) = c.loop-steps.invariant.ran s stands in
    let (w, next, on) = c.in_ok-install.ensures.ok (in_world s mid) there in
    (w, (steps, at_end s d steps mid None w some (subst (λ o. Installs (in_world s mid) d o w) outcome next), count), on)

pub returns-in-Err-clause-ok : goal.returns-in-Err-clause-ok
returns-in-Err-clause-ok c = λ s stands.
    let d = database_of (c.args.at + 1) in
    let outcome : c.in_ok-install.field-0 ≡ Err c.in-Err.refusal = c.in-Err.is in
    let (mid, steps, some, count, there) = c.loop-steps.invariant.ran s stands in
    let (w, next, on) = c.in_ok-install.ensures.ok (in_world s mid) there in
    (w, (steps, at_end s d steps mid (Some c.in-Err.refusal) w some (subst (λ o. Installs (in_world s mid) d o w) outcome next)), on)

pub returns-in_err-install-clause-err : goal.returns-in_err-install-clause-err
returns-in_err-install-clause-err c = λ s stands.
    let (w, steps, some, count, there) = c.loop-steps.invariant.ran s stands in
    on_err c.from_residual.result (w, steps, some, c.in_err-install.ensures.err (in_world s w) there)
