use Rattle.std.proofs.Common.{◌≡◌, ◌∙◌, ◌<◌, ◌++◌, ◌∷◌, List, [], Some, get_or, length, map, slice_get, option_map, take, sym, ap, subst, arith, rules}
use Rattle.std.proofs.lemmas.List.{length-map, take_all}
use Rattle.std.proofs.lemmas.Option.{slice_get-get_or, slice_get-map}
use Rattle.std.specs.List.Sorted.{IsPermutation}
use Rattle.win_order.specs.declared.update.Update.{Update}
use Rattle.name_rules.specs.Shown.{Descends}
use Rattle.name_rules.proofs.Found.{are_shown, next_file, uids_at}
use Rattle.name_rules.proofs.Lists.{got_in}
use Rattle.name_rules.proofs.descent.shown.Goals as goal

pub index-requires : goal.index-requires
index-requires c =
    let place = slice_get-get_or c.as_slice-at-items.result.now c.loop-at.at-index 0 c.loop-at-test.true in
    let there = got_in c.in_ok-reached.reached.queue.items c.loop-at.at-index (get_or c.as_slice-at-items.result.now c.loop-at.at-index 0) (ap (λ q. slice_get q c.loop-at.at-index) (sym c.as_slice-at-items.ensures.value) ∙ place) in
    let long = length-map c.as_slice.result.now (λ u. u.now) in
    let within = c.in_ok-reached.ensures.flagged.within _ there in
    omega (arith, c.as_slice.ensures.len)

pub loop-at-preserved : goal.loop-at-preserved
loop-at-preserved c =
    let named : List Update = map (λ u. u.now) c.in_ok-named.named.items in
    let at = get_or c.as_slice-at-items.result.now c.loop-at.at-index 0 in
    let place = slice_get-get_or c.as_slice-at-items.result.now c.loop-at.at-index 0 c.loop-at-test.true in
    let there = got_in c.in_ok-reached.reached.queue.items c.loop-at.at-index at (ap (λ q. slice_get q c.loop-at.at-index) (sym c.as_slice-at-items.ensures.value) ∙ place) in
    let long = length-map c.as_slice.result.now (λ u. u.now) in
    let within = c.in_ok-reached.ensures.flagged.within at there in
    let low : at < length c.in_ok-named.named.items = omega (arith, ap length c.as_slice.ensures.value) in
    let same : get_or c.in_ok-named.named.items at c.index.result.now ≡ c.index.result.now = search rules in
    let here : slice_get named at ≡ Some c.index.result.now.now =
    slice_get-map (λ u. u.now) c.in_ok-named.named.items at
    ∙ ap (option_map (λ u. u.now)) (slice_get-get_or c.in_ok-named.named.items at c.index.result.now low)
    ∙ ap (λ b. Some b.now) same in
    c.in_ok-push.ensures.items ∙ ap (λ l. l ++ c.index.result.now.now.uid ∷ []) c.loop-at.invariant
    ∙ sym (next_file named c.as_slice-at-items.result.now c.loop-at.at-index at c.index.result.now.now place here)

pub returns : goal.returns
returns c =
    let named : List Update = map (λ u. u.now) c.in_ok-named.named.items in
    let all : uids_at named (take c.loop-at.at-index c.as_slice-at-items.result.now) ≡ uids_at named c.in_ok-reached.reached.queue.items =
    ap (uids_at named) (take_all c.loop-at.at-index c.as_slice-at-items.result.now (omega (arith, c.loop-at-test.false)) ∙ c.as_slice-at-items.ensures.value) in
    are_shown c.args.records.now named c.in_ok-reached.reached.flags.items c.in_ok-reached.reached.queue.items c.in_ok-reached.reached.above.items c.sort_unstable.new.self.items c.requires c.in_ok-named.ensures
    (subst (λ l. Descends (map (λ u. u.now) l) c.in_ok-reached.reached.flags.items c.in_ok-reached.reached.queue.items c.in_ok-reached.reached.above.items) c.as_slice.ensures.value c.in_ok-reached.ensures)
    (subst (λ l. IsPermutation l c.sort_unstable.new.self.items) (c.loop-at.invariant ∙ all) c.sort_unstable.ensures.permutation)
    c.sort_unstable.ensures.sorted
