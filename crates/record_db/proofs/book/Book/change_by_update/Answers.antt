use Rattle.std.proofs.Common.{◌∙◌, Some, ap, subst, sym}
use Rattle.version_vector.specs.Places.{one_version}
use Rattle.version_vector.specs.Unions.{inserted}
use Rattle.record_db.specs.Steps.{Widens, covered_with, in_set}
use Rattle.record_db.proofs.Widening.{added, changed_by_update, widens_update}
use Rattle.record_db.proofs.book.Book.change_by_update.Goals as goal

pub cover-requires-clause-widens : goal.cover-requires-clause-widens
cover-requires-clause-widens c =
    let book = c.args.self.now.state in
    let is = ap (λ seen. seen.state.consumed) c.self.view_is in
    let u = c.args.update in
    subst (Widens book (inserted (one_version u.gvsn) book.vector) c.self.inside.consumed) (sym c.requires.put)
    (subst (λ n. Widens book (inserted (one_version u.gvsn) book.vector) n (Some (in_set book.set u))) (sym is)
    (widens_update book u c.args.form _ c.vector.ensures.book c.requires.allowed (added u.gvsn book.vector c.vector.ensures.book.canonical) c.requires.vector.within))

pub returns : goal.returns
returns c =
    let is = ap (λ seen. seen.state.consumed) c.self.view_is in
    changed_by_update c.args.self.now.state _ c.args.update c.args.put c.args.form c.requires.put c.vector.ensures.book
    (c.cover.ensures ∙ ap (λ n. covered_with c.args.self.now.state c.args.update.gvsn n c.args.put c.args.form) is)
