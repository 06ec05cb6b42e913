use Rattle.std.proofs.Common.{◌<◌, ◌∙◌, ◌+◌, ◌++◌, ◌∷◌, [], ap, get_or, length, subst, sym, take, arith}
use Rattle.version_vector.specs.Versions.{IsCanonical, covers}
use Rattle.version_vector.proofs.Prefixes.{take_form}
use Rattle.pinned_pages.specs.Pages.{IsPage}
use Rattle.pinned_pages.proofs.Pages.{beginning_grows, page_joins}
use Rattle.pinned_pages.proofs.pinned.Pinned.page.Goals as goal

pub loop-interval-preserved : goal.loop-interval-preserved
loop-interval-preserved c =
    let asked = c.args.asked.now in
    let records = c.args.self.now.records in
    let n = c.loop-interval.interval-index in
    let i = c.interval-item.result in
    let all = c.intervals-interval-items.ensures.intervals in
    let grown = beginning_grows asked n i i (subst (λ l. n < length l) all c.loop-interval-test.true) (c.interval-item.is ∙ ap (λ l. get_or l n i) all) in
    let form = subst IsCanonical (sym grown) (take_form asked (n + 1) c.intervals-interval-items.ensures.canonical) in
    let (added, same, page) = c.in_ok-add_interval.ensures in
    subst (λ l. IsPage (covers l) records c.add_interval.new.page.items) grown
    (subst (IsPage (covers (take n asked ++ i ∷ [])) records) (sym same) (page_joins (take n asked) i records c.loop-interval.page.items added form c.loop-interval.invariant page))
