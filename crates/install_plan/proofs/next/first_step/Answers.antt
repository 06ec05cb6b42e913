use Rattle.std.proofs.Common.{arith, subst, sym}
use Rattle.name_rules.specs.declared.step.Step.TheVariants.{Skip}
use Rattle.install_plan.specs.Done.{IsDue}
use Rattle.install_plan.proofs.Steps.{all_done, due_erase, due_make, due_park, due_place, due_rewrite, due_skip, due_unstage}
use Rattle.install_plan.proofs.next.first_step.Goals as goal

pub returns-in-Some : goal.returns-in-Some
returns-in-Some c = due_park c.args.volume.now.state c.args.book.now.state c.in-Some.uid c.in-Some.ensures

pub returns-in-Some-first_to_erase : goal.returns-in-Some-first_to_erase
returns-in-Some-first_to_erase c = due_erase c.args.volume.now.state c.args.book.now.state c.in-Some-first_to_erase.uid c.in_default.ensures c.in-Some-first_to_erase.ensures

pub returns-in-Some-first_to_make : goal.returns-in-Some-first_to_make
returns-in-Some-first_to_make c = due_make c.args.volume.now.state c.args.book.now.state c.in-Some-first_to_make.uid c.in_default.ensures c.in_default-first_to_erase.ensures c.in-Some-first_to_make.ensures

pub returns-in-Some-first_to_rewrite : goal.returns-in-Some-first_to_rewrite
returns-in-Some-first_to_rewrite c = due_rewrite c.args.volume.now.state c.args.book.now.state c.in-Some-first_to_rewrite.uid c.in_default.ensures c.in_default-first_to_erase.ensures c.in_default-first_to_make.ensures c.in-Some-first_to_rewrite.ensures

pub returns-in-Some-first_to_place : goal.returns-in-Some-first_to_place
returns-in-Some-first_to_place c = due_place c.args.volume.now.state c.args.book.now.state c.in-Some-first_to_place.uid c.in_default.ensures c.in_default-first_to_erase.ensures c.in_default-first_to_make.ensures c.in_default-first_to_rewrite.ensures c.in-Some-first_to_place.ensures

pub returns-in-Some-first_to_unstage : goal.returns-in-Some-first_to_unstage
returns-in-Some-first_to_unstage c = due_unstage c.args.volume.now.state c.args.book.now.state c.in-Some-first_to_unstage.uid c.in_default.ensures c.in_default-first_to_erase.ensures c.in_default-first_to_make.ensures c.in_default-first_to_rewrite.ensures c.in_default-first_to_place.ensures c.in-Some-first_to_unstage.ensures

pub returns-then-usn-next_usn : goal.returns-then-usn-next_usn
returns-then-usn-next_usn c =
    subst (λ usn. IsDue c.args.volume.now.state c.args.book.now.state (Skip usn)) (sym c.consumed-usn.ensures)
    (due_skip c.args.volume.now.state c.args.book.now.state c.requires.numbered c.requires.begun (omega (arith, c.if-usn-next_usn.true, c.consumed-usn.ensures, c.next_usn.ensures))
    (all_done c.args.volume.now.state c.args.book.now.state c.in_default.ensures c.in_default-first_to_erase.ensures c.in_default-first_to_make.ensures c.in_default-first_to_rewrite.ensures c.in_default-first_to_place.ensures c.in_default-first_to_unstage.ensures))

pub returns : goal.returns
returns c = record {
  done = all_done c.args.volume.now.state c.args.book.now.state c.in_default.ensures c.in_default-first_to_erase.ensures c.in_default-first_to_make.ensures c.in_default-first_to_rewrite.ensures c.in_default-first_to_place.ensures c.in_default-first_to_unstage.ensures;
  consumed = let within = c.requires.consumed in omega (arith, within, c.if-usn-next_usn.false, c.consumed-usn.ensures, c.next_usn.ensures);
}
