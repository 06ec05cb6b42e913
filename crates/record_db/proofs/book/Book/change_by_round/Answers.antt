use Rattle.std.proofs.Common.{◌≡◌, ap, subst, sym, true}
use Rattle.record_db.specs.Steps.{IsMerged, is_allowed}
use Rattle.record_db.specs.declared.command.BookCmd.TheVariants.{Finish}
use Rattle.record_db.proofs.Kept.{kept_round}
use Rattle.record_db.proofs.Widening.{widens_round}
use Rattle.record_db.proofs.book.Book.change_by_round.Goals as goal

pub invariant_of-self : goal.invariant_of-self
invariant_of-self c =
    let is = ap (λ seen. seen.state) c.self.view_is in
    let merged = subst (λ b. IsMerged c.args.sent b c.args.merged.items) (sym is) c.requires.merged in
    let allowed = subst (λ b. is_allowed (Finish c.args.sent) b ≡ true) (sym is) c.requires.allowed in
    kept_round _ c.args.merged.items c.self.invariant (widens_round _ c.args.sent c.args.merged.items c.self.invariant allowed merged.vector merged.within)
