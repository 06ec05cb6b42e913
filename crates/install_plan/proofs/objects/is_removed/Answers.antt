use Rattle.std.proofs.Common.{◌≡◌, ◌∙◌, None, Some, ap}
use Rattle.vol_state.specs.State.{uid_of}
use Rattle.install_plan.proofs.Answered.{held_of_it, removes}
use Rattle.install_plan.proofs.objects.is_removed.Goals as goal

pub returns-in-None : goal.returns-in-None
returns-in-None c = λ u of. absurd (held_of_it c.args.volume.now.state c.args.book.now.state c.args.object.now c.requires c.uid.result None whose c.in-None.ensures u of)
  where
    whose : c.uid.result ≡ uid_of c.args.volume.now.state.own c.args.object.now
    whose = c.uid.ensures ∙ ap (λ own. uid_of own c.args.object.now) c.own.ensures

pub returns-in-Some : goal.returns-in-Some
returns-in-Some c =
    removes c.args.volume.now.state c.args.book.now.state c.args.object.now c.requires c.in-Some.update.now
    (held_of_it c.args.volume.now.state c.args.book.now.state c.args.object.now c.requires c.uid.result (Some c.in-Some.update.now) whose c.in-Some.ensures)
  where
    whose : c.uid.result ≡ uid_of c.args.volume.now.state.own c.args.object.now
    whose = c.uid.ensures ∙ ap (λ own. uid_of own c.args.object.now) c.own.ensures
