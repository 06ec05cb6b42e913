use Rattle.std.proofs.Common.{subst}
use Rattle.vol_state.specs.Maps.{maps_of}
use Rattle.name_rules.specs.Next.{IsDrained, IsNext}
use Rattle.name_rules.specs.Shown.{Among}
use Rattle.install_plan.specs.Staged.{staged_hashes}
use Rattle.install_plan.proofs.Steps.{drained, next_due, quiet_of}
use Rattle.install_plan.proofs.next.next_step.Goals as goal

pub returns-in-None-clause-answer : goal.returns-in-None-clause-answer
returns-in-None-clause-answer c =
    subst (λ own. IsDrained (Among c.args.book.now.state.records) own (maps_of c.args.volume.now.state) (staged_hashes c.args.book.now.state) c.args.book.now.state.consumed) c.requires.own
    (drained c.args.volume.now.state c.args.book.now.state (quiet_of c.args.volume.now.state c.args.book.now.state c.in_ok-plan.field-0 c.in-Ok.plan c.in-Ok.is c.in_ok-plan.ensures) c.in-None.ensures)

pub returns-in-Some-clause-answer : goal.returns-in-Some-clause-answer
returns-in-Some-clause-answer c = (
  (quiet_of c.args.volume.now.state c.args.book.now.state c.in_ok-plan.field-0 c.in-Ok.plan c.in-Ok.is c.in_ok-plan.ensures),
  subst (λ own. IsNext (Among c.args.book.now.state.records) own (maps_of c.args.volume.now.state) (staged_hashes c.args.book.now.state) c.args.book.now.state.consumed c.in-Some.step) c.requires.own
      (next_due c.args.volume.now.state c.args.book.now.state c.in-Some.step c.in-Some.ensures),
)
