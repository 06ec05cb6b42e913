use Rattle.std.proofs.Common.{◌≡◌, ◌∙◌, None, Some, ap, subst, sym}
use Rattle.std.specs.Prelude.{◌↔◌, IsTrue, option_copied}
use Rattle.std.specs.Str.{bytes_eq}
use Rattle.vol_state.specs.State.{uid_of}
use Rattle.install_plan.specs.Objects.{IsInstalled}
use Rattle.install_plan.proofs.Answered.{installed_decides, lent_some, not_installed, staged_is, sum_decides}
use Rattle.install_plan.proofs.objects.is_installed.Goals as goal

pub returns-in-None : goal.returns-in-None
returns-in-None c = (
  λ t. absurd (cc),
  λ e. absurd (not_installed c.args.volume.now.state c.args.book.now.state c.args.object.now (option_copied c.form.result)
      (staged_is c.args.volume.now.state c.args.book.now.state c.args.object.now c.uid.result c.uid-2.result (option_copied c.form.result) None whose whose_too c.form.ensures c.in-None.ensures) e),
)
  where
    whose : c.uid.result ≡ uid_of c.args.volume.now.state.own c.args.object.now
    whose = c.uid.ensures ∙ ap (λ own. uid_of own c.args.object.now) c.own-own.ensures

    whose_too : c.uid-2.result ≡ uid_of c.args.volume.now.state.own c.args.object.now
    whose_too = c.uid-2.ensures ∙ ap (λ own. uid_of own c.args.object.now) c.own-own.ensures

pub returns-in-Some : goal.returns-in-Some
returns-in-Some c =
    subst (λ b. IsTrue b ↔ IsInstalled c.args.volume.now.state c.args.book.now.state c.args.object.now) (sym c.eq.ensures)
    (installed_decides c.args.volume.now.state c.args.book.now.state c.args.object.now (option_copied c.form.result) c.in-Some.update.now (bytes_eq c.in-Some.update.now.hash.0 c.args.object.now.sum.0)
    (sym (lent_some c.form.result) ∙ c.if-is_none.ensures)
    (staged_is c.args.volume.now.state c.args.book.now.state c.args.object.now c.uid.result c.uid-2.result (option_copied c.form.result) (Some c.in-Some.update.now) whose whose_too c.form.ensures c.in-Some.ensures)
    (sum_decides c.in-Some.update.now.hash c.args.object.now.sum))
  where
    whose : c.uid.result ≡ uid_of c.args.volume.now.state.own c.args.object.now
    whose = c.uid.ensures ∙ ap (λ own. uid_of own c.args.object.now) c.own-own.ensures

    whose_too : c.uid-2.result ≡ uid_of c.args.volume.now.state.own c.args.object.now
    whose_too = c.uid-2.ensures ∙ ap (λ own. uid_of own c.args.object.now) c.own-own.ensures
