use Rattle.std.proofs.Common.{◌∙◌, ap}
use Rattle.version_vector.specs.Versions.{covers}
use Rattle.pinned_pages.proofs.Pages.{page_same}
use Rattle.script_engine.specs.Pulls.{unknown}
use Rattle.script_engine.proofs.engine.pulling.page_of.Goals as goal

pub returns : goal.returns
returns c =
    let sent = c.args.pinned.now.vector in
    page_same (covers c.in_ok-asked.asked) (unknown sent c.args.vector.now.items) c.args.pinned.now.records c.in_ok-page.page.items
    (λ u h. c.in_ok-asked.ensures.set u.gvsn ∙ ap (λ own. unknown sent own u.gvsn) c.in_ok-own.ensures) c.in_ok-page.ensures
