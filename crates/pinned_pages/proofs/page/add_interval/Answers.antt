use Rattle.std.proofs.Common.{◌≡◌, ◌∙◌, ◌++◌, ◌∷◌, [], Some, None, ap, append_assoc, arith, subst, refl}
use Rattle.version_vector.specs.declared.interval.Interval.{Interval}
use Rattle.pinned_pages.specs.Pages.{IsFirstWithin}
use Rattle.pinned_pages.proofs.Pages.{left, low_end, page_begins, page_ends, page_grows}
use Rattle.pinned_pages.proofs.page.add_interval.Goals as goal

rest_is : (rest i : Interval) → rest.db ≡ i.db → rest.high ≡ i.high → rest ≡ left i rest.low
rest_is rest i db high = λ k. record { db = db k; low = rest.low; high = high k }

pub loop-update-preserved : goal.loop-update-preserved
loop-update-preserved c =
    let i = c.args.interval.now in
    let rest = c.loop-update.rest in
    let records = c.args.records.now in
    let r = c.in-Some.update.now in
    let before = c.loop-update.invariant in
    let first = subst (λ j. IsFirstWithin j records (Some r)) (rest_is rest i before.db before.high) c.in-Some.ensures.first in
    let (added, same, page) = before.added in
    record {
      db = before.db;
      high = before.high;
      low = let from = low_end rest r.gvsn c.in-Some.ensures.first.1 in omega (arith, from, before.low);
      added = (
        added ++ r ∷ [],
        c.in_ok-push.ensures.items ∙ ap (λ u. c.loop-update.page.items ++ u ∷ []) c.in_ok-copy.ensures ∙ ap (λ l. l ++ r ∷ []) same ∙ append_assoc c.args.page.now.items added (r ∷ []),
        page_grows i rest.low records added r before.low page first,
      );
    }

pub returns : goal.returns
returns c =
    let i = c.args.interval.now in
    let rest = c.loop-update.rest in
    let before = c.loop-update.invariant in
    let none = subst (λ j. IsFirstWithin j c.args.records.now None) (rest_is rest i before.db before.high) c.in_default.ensures.first in
    let (added, same, page) = before.added in
    (added, same, page_ends i rest.low c.args.records.now added page none)
