use Rattle.std.proofs.Common.{rules, ◌≡◌, ◌≤◌, ◌++◌, ◌∷◌, [], List, ℕ, get_or, ◌∙◌, length}
use Rattle.std.proofs.lemmas.List.{take_more, take_all}
use Rattle.slot_probe.specs.Piles.{pile_saves}
use Rattle.slot_probe.proofs.pile.PileMachine.save.Goals as goal

pub loop-string-preserved : goal.loop-string-preserved
loop-string-preserved c =
    let one : c.of.result ≡ get_or c.as_slice-string-items.result.now c.loop-string.string-index c.string-item.result = c.of.ensures ∙ c.in_ok-from_slice.ensures.items ∙ c.as_slice.ensures ∙ c.string-item.is in
    rw (take_more c.as_slice-string-items.result.now c.loop-string.string-index c.string-item.result c.loop-string-test.true) (c.in_ok-push.ensures.items ∙ (λ k. c.loop-string.invariant k ++ one k ∷ []))

pub returns : goal.returns
returns c =
    let past : length c.as_slice-string-items.result.now ≤ c.loop-string.string-index = search rules in
    pile_saves c.args.self.now.strings.items c.loop-string.saved.items (c.loop-string.invariant ∙ take_all c.loop-string.string-index c.as_slice-string-items.result.now past ∙ c.as_slice-string-items.ensures)
