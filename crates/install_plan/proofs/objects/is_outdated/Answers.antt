use Rattle.std.proofs.Common.{◌≡◌, ◌∙◌, None, Some, ap, subst, sym}
use Rattle.std.specs.Prelude.{MatchBool}
use Rattle.std.specs.Str.{bytes_eq}
use Rattle.vol_state.specs.State.{uid_of}
use Rattle.install_plan.specs.Objects.{IsOutdated, IsUpToDate}
use Rattle.install_plan.proofs.Answered.{held_of_it, no_file, outdates, sum_decides}
use Rattle.install_plan.proofs.objects.is_outdated.Goals as goal

pub returns-in-None : goal.returns-in-None
returns-in-None c = λ u of. absurd (held_of_it c.args.volume.now.state c.args.book.now.state c.args.object.now c.requires c.uid.result None whose c.in-None.ensures u of)
  where
    whose : c.uid.result ≡ uid_of c.args.volume.now.state.own c.args.object.now
    whose = c.uid.ensures ∙ ap (λ own. uid_of own c.args.object.now) c.own.ensures

pub returns-then-is_file : goal.returns-then-is_file
returns-then-is_file c =
    subst (λ b. MatchBool b (IsOutdated c.args.volume.now.state c.args.book.now.state.records c.args.object.now) (IsUpToDate c.args.volume.now.state c.args.book.now.state.records c.args.object.now)) (sym c.ne.ensures)
    (outdates c.args.volume.now.state c.args.book.now.state c.args.object.now c.requires c.in-Some.update.now (bytes_eq c.args.object.now.sum.0 c.in-Some.update.now.hash.0)
    (held_of_it c.args.volume.now.state c.args.book.now.state c.args.object.now c.requires c.uid.result (Some c.in-Some.update.now) whose c.in-Some.ensures) (sym c.is_file.ensures ∙ c.if-is_file.true)
    (sum_decides c.args.object.now.sum c.in-Some.update.now.hash))
  where
    whose : c.uid.result ≡ uid_of c.args.volume.now.state.own c.args.object.now
    whose = c.uid.ensures ∙ ap (λ own. uid_of own c.args.object.now) c.own.ensures

pub returns-else-is_file : goal.returns-else-is_file
returns-else-is_file c =
    subst (λ b. MatchBool b (IsOutdated c.args.volume.now.state c.args.book.now.state.records c.args.object.now) (IsUpToDate c.args.volume.now.state c.args.book.now.state.records c.args.object.now)) (sym c.if-is_file.false)
    (no_file c.args.volume.now.state c.args.book.now.state c.args.object.now c.requires c.in-Some.update.now
    (held_of_it c.args.volume.now.state c.args.book.now.state c.args.object.now c.requires c.uid.result (Some c.in-Some.update.now) whose c.in-Some.ensures) (sym c.is_file.ensures ∙ c.if-is_file.false))
  where
    whose : c.uid.result ≡ uid_of c.args.volume.now.state.own c.args.object.now
    whose = c.uid.ensures ∙ ap (λ own. uid_of own c.args.object.now) c.own.ensures
