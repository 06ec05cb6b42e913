use Rattle.std.proofs.Common.{◌≡◌, ◌∙◌, ap, subst, sym}
use Rattle.std.specs.Prelude.{◌↔◌, IsTrue, MatchOption, option_copied}
use Rattle.vol_state.specs.State.{uid_of}
use Rattle.win_order.specs.declared.update.Update.{Update}
use Rattle.install_plan.specs.Objects.{IsAwaited, IsShownOf}
use Rattle.install_plan.proofs.Answered.{awaits, in_limbo, lent_some}
use Rattle.install_plan.proofs.objects.is_awaited.Goals as goal

pub returns-then-is_none : goal.returns-then-is_none
returns-then-is_none c =
    subst (λ b. IsTrue b ↔ IsAwaited c.args.volume.now.state c.args.book.now.state.records c.args.object.now) (sym (c.is_some.ensures ∙ lent_some c.shown_record.result))
    (awaits c.args.volume.now.state c.args.book.now.state c.args.object.now (option_copied c.shown_record.result) (in_limbo c.args.object.now.place c.if-is_none.ensures)
    (subst (λ uid. MatchOption (option_copied c.shown_record.result) ((u : Update) → IsShownOf c.args.book.now.state.records uid u → ⊥) (λ u. IsShownOf c.args.book.now.state.records uid u)) whose c.shown_record.ensures))
  where
    whose : c.uid.result ≡ uid_of c.args.volume.now.state.own c.args.object.now
    whose = c.uid.ensures ∙ ap (λ own. uid_of own c.args.object.now) c.own.ensures
