use Rattle.std.proofs.Common.{◌+◌, subst, sym, ◌∙◌, ap}
use Rattle.std.specs.Prelude.{option_map}
use Rattle.frs_base.specs.declared.version.Gvsn.{Gvsn}
use Rattle.version_vector.specs.Places.{one_version}
use Rattle.version_vector.specs.Unions.{inserted}
use Rattle.record_db.specs.Steps.{Widens, in_set, own_version}
use Rattle.record_db.proofs.Widening.{added, changed_by_record, widens_record}
use Rattle.record_db.proofs.book.Book.change_by_record.Goals as goal

pub cover-requires-clause-widens : goal.cover-requires-clause-widens
cover-requires-clause-widens c =
    let book = c.args.self.now.state in
    let own = own_version book c.args.usn in
    subst (Widens book (inserted (one_version c.own_version-version.result) book.vector) (c.args.usn + 1)) (sym c.requires.put)
    (subst (λ (g : Gvsn). Widens book (inserted (one_version g) book.vector) (c.args.usn + 1) (option_map (in_set book.set) c.args.update)) (sym c.own_version-version.ensures)
    (widens_record book c.args.usn c.args.update _ c.vector.ensures.book c.requires.allowed (added own book.vector c.vector.ensures.book.canonical) c.requires.vector.within))

pub returns : goal.returns
returns c =
    changed_by_record c.args.self.now.state _ c.args.usn c.args.update c.args.put _ c.own_version-version.ensures c.requires.put c.vector.ensures.book c.cover.ensures
