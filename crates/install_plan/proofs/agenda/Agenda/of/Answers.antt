use Rattle.std.proofs.Common.{◌∙◌, subst, sym}
use Rattle.frs_base.specs.Options.{In}
use Rattle.name_rules.specs.Shown.{AreDistinct, AreShown}
use Rattle.install_plan.proofs.Held.{book_is_distinct}
use Rattle.install_plan.proofs.Listing.{new_agenda}
use Rattle.install_plan.proofs.agenda.Agenda.of.Goals as goal

pub shown-requires : goal.shown-requires
shown-requires c = subst AreDistinct (sym (c.as_slice.ensures.value ∙ c.in_ok-records.ensures.rows)) (book_is_distinct c.args.book.now.state c.requires.book)

pub returns : goal.returns
returns c =
    new_agenda c.args.volume.now.state c.args.book.now.state c.in_ok-shown.shown.items c.in_ok-uids.uids.items c.add_missing.new.uids.items c.sort_unstable.new.self.items
    (subst (λ l. AreShown l c.in_ok-shown.shown.items) (c.as_slice.ensures.value ∙ c.in_ok-records.ensures.rows) c.in_ok-shown.ensures)
    c.requires.quiet c.in_ok-uids.ensures c.in_ok-add_missing.ensures.kept
    (λ uid i. c.in_ok-add_missing.ensures.missing uid (subst (λ l. In uid l) (sym c.as_slice-3.ensures.value) i))
    c.sort_unstable.ensures.permutation c.sort_unstable.ensures.sorted
