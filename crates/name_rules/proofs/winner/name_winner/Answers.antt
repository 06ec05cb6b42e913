use Rattle.std.proofs.Common.{◌≡◌, ◌∙◌, ◌++◌, ◌+◌, ◌∷◌, List, [], Option, option_map, take, sym, ap, subst, arith, rules}
use Rattle.std.proofs.lemmas.List.{take_all}
use Rattle.win_order.specs.declared.update.Update.{Update}
use Rattle.name_rules.specs.Winner.{IsNameWinner}
use Rattle.name_rules.proofs.Lists.{take_next}
use Rattle.name_rules.proofs.Winning.{Leads, next_leads, passes_by, wins}
use Rattle.name_rules.proofs.winner.name_winner.Goals as goal
use Rattle.name_rules.proofs.winner.name_winner.Goals.{then-wants, else-wants}

pub loop-update-preserved : goal.loop-update-preserved
loop-update-preserved c =
    let seen : List Update = take c.loop-update.update-index c.args.records.now in
    let before : Option Update = option_map (λ u. u.now) c.loop-update.winner in
    let more : take (c.loop-update.update-index + 1) c.args.records.now ≡ seen ++ c.update-item.result ∷ [] =
    take_next c.args.records.now c.loop-update.update-index c.update-item.result c.loop-update-test.true c.update-item.is in
    subst (λ l. Leads l c.args.parent c.args.name.now (option_map (λ u. u.now) c.if-wants.winner)) (sym more) (elim c.if-wants.branch [
      | then-wants w ↦
          subst (Leads (seen ++ c.update-item.result ∷ []) c.args.parent c.args.name.now) (sym (ap (option_map (λ u. u.now)) w.winner-is ∙ w.leader-winner.ensures))
          (next_leads seen c.args.parent c.args.name.now before c.update-item.result c.loop-update.invariant (sym c.wants.ensures ∙ w.if-wants.true))
      | else-wants w ↦
          subst (λ o. Leads (seen ++ c.update-item.result ∷ []) c.args.parent c.args.name.now (option_map (λ u. u.now) o)) (sym w.winner-is)
          (passes_by seen c.args.parent c.args.name.now before c.update-item.result c.loop-update.invariant (sym c.wants.ensures ∙ w.if-wants.false))
    ])

pub returns : goal.returns
returns c =
    let last : Option Update = option_map (λ u. u.now) c.loop-update.winner in
    let all = take_all c.loop-update.update-index c.args.records.now (omega (arith, c.loop-update-test.false)) in
    let file : c.map.result ≡ option_map (λ (u : Update). u.uid) last = search rules in
    subst (IsNameWinner c.args.records.now c.args.parent c.args.name.now) (sym file)
    (wins c.args.records.now c.args.parent c.args.name.now last
    (subst (λ l. Leads l c.args.parent c.args.name.now last) all c.loop-update.invariant))
