use Rattle.std.proofs.Common.{◌≡◌, ◌++◌, ◌∙◌, List, map, sym, ap, subst, arith}
use Rattle.std.proofs.lemmas.List.{append-nil, drop_all}
use Rattle.win_order.specs.declared.update.Update.{Update}
use Rattle.name_rules.specs.Shown.{AreNamed, last_of_places}
use Rattle.name_rules.proofs.Places.{are_named}
use Rattle.name_rules.proofs.named.named.Goals as goal

pub returns : goal.returns
returns c = subst (AreNamed c.args.records.now) (sym last) (are_named c.args.records.now ranked c.requires c.in_ok-ranked.ensures)
  where
    ranked : List Update
    ranked = map (λ u. u.now) c.in_ok-ranked.ranked.items

    found : List Update
    found = map (λ u. u.now) c.loop-at.named.items

    last : found ≡ last_of_places ranked
    last =
        sym (append-nil found)
        ∙ ap (λ l. found ++ last_of_places (map (λ u. u.now) l)) (sym (drop_all c.loop-at.at c.deref-update-items.result.now (omega (arith, c.loop-at-test.false))))
        ∙ c.loop-at.invariant
        ∙ ap (λ l. last_of_places (map (λ u. u.now) l)) c.deref-update-items.ensures.value
