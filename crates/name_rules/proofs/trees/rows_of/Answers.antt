use Rattle.std.proofs.Common.{◌≡◌, ◌∙◌, ◌++◌, ◌<◌, ◌+◌, ℕ, List, [], ◌∷◌, Option, Some, get_or, length, map, option_map, slice_get, sym, ap, subst, arith, rules}
use Rattle.std.proofs.lemmas.List.{length-map}
use Rattle.std.proofs.lemmas.Option.{slice_get-get_or, slice_get-map, slice_get_read, slice_get_within}
use Rattle.win_order.specs.declared.update.Update.{Update}
use Rattle.name_rules.specs.Rows.{path_above, row_in}
use Rattle.name_rules.proofs.Lists.{got_in}
use Rattle.name_rules.proofs.Rooted.{AreRowsSoFar, all_rows, next_row}
use Rattle.name_rules.proofs.trees.rows_of.Goals as goal

pub bounds-named-at : goal.bounds-named-at
bounds-named-at c =
    let at = get_or c.deref-at-items.result.now c.loop-next.next 0 in
    let place = slice_get-get_or c.deref-at-items.result.now c.loop-next.next 0 c.loop-next-test.true in
    let there = got_in c.args.reached.now.queue.items c.loop-next.next at (ap (λ q. slice_get q c.loop-next.next) (sym c.deref-at-items.ensures.value) ∙ place) in
    let long = length-map c.args.named.now (λ u. u.now) in
    let within = c.requires.flagged.within at there in
    omega arith

pub offset_bounds-named-at : goal.offset_bounds-named-at
offset_bounds-named-at c = let bound : get_or c.deref-at-items.result.now c.loop-next.next 0 < length c.args.named.now = bounds-named-at c in search rules

pub loop-next-preserved : goal.loop-next-preserved
loop-next-preserved c =
    let named : List Update = map (λ u. u.now) c.args.named.now in
    let at = get_or c.deref-at-items.result.now c.loop-next.next 0 in
    let place = slice_get-get_or c.deref-at-items.result.now c.loop-next.next 0 c.loop-next-test.true in
    let queued : slice_get c.args.reached.now.queue.items c.loop-next.next ≡ Some at = ap (λ q. slice_get q c.loop-next.next) (sym c.deref-at-items.ensures.value) ∙ place in
    let there = got_in c.args.reached.now.queue.items c.loop-next.next at queued in
    let long = length-map c.args.named.now (λ u. u.now) in
    let within = c.requires.flagged.within at there in
    let low : at < length c.args.named.now = omega arith in
    let here : slice_get named at ≡ Some c.index-named-at.result.now =
    slice_get-map (λ u. u.now) c.args.named.now at
    ∙ ap (option_map (λ u. u.now)) (slice_get-get_or c.args.named.now at c.index-named-at.result low)
    ∙ ap (λ b. Some b.now) (sym c.index-named-at.is) in
    let up : Option ℕ = c.index.result.now in
    let hung : slice_get c.args.reached.now.above.items c.loop-next.next ≡ Some up =
    slice_get_read c.args.reached.now.above.items (length c.args.reached.now.queue.items) c.loop-next.next up (sym c.requires.hung.long)
    (slice_get_within c.args.reached.now.queue.items c.loop-next.next at queued) c.index.ensures in
    let row : c.in_ok-row.row ≡ row_in (path_above c.loop-next.rows.items up) c.index-named-at.result.now =
    c.in_ok-row.ensures ∙ ap (λ p. row_in p c.index-named-at.result.now) (c.path_above-above.ensures ∙ ap (λ l. path_above l up) c.as_slice.ensures.value) in
    subst (AreRowsSoFar named c.args.reached.now.queue.items c.args.reached.now.above.items (c.loop-next.next + 1))
    (sym (c.in_ok-push.ensures.items ∙ ap (λ r. c.loop-next.rows.items ++ r ∷ []) row))
    (next_row named c.args.reached.now.queue.items c.args.reached.now.above.items c.loop-next.next c.loop-next.rows.items at c.index-named-at.result.now up
    c.requires.hung c.loop-next.invariant queued here hung)

pub returns : goal.returns
returns c =
    all_rows (map (λ u. u.now) c.args.named.now) c.args.reached.now.queue.items c.args.reached.now.above.items c.loop-next.next c.loop-next.rows.items c.loop-next.invariant
    (let e = ap length c.deref-at-items.ensures.value in let n = c.loop-next.auto.next-end in omega (arith, c.loop-next-test.false))
