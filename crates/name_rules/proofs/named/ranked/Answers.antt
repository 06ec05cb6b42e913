use Rattle.std.proofs.Common.{◌≡◌, ◌∙◌, List, map, rules, ap, subst, arith}
use Rattle.std.proofs.lemmas.List.{take_all}
use Rattle.std.proofs.lemmas.List.Sorted.{Contains-permutation, IsPermutation-map, IsPermutation-sym, answers_always, ranks_by}
use Rattle.std.specs.List.{filter}
use Rattle.std.specs.List.Sorted.{IsPermutation}
use Rattle.win_order.specs.declared.update.Update.{Update}
use Rattle.name_rules.proofs.Lists.{contains_in, in_contains, in_kept, kept_in}
use Rattle.name_rules.proofs.Places.{rank_lt, rising}
use Rattle.name_rules.proofs.Ranks.{rank_total}
use Rattle.name_rules.proofs.named.ranked.Goals as goal

pub returns : goal.returns
returns c = record {
  ordered = rising (λ u. u.now) c.sort_unstable_by.new.self.items
      (c.sort_unstable_by.ensures.sorted (λ u v. rank_lt u.now v.now) (ranks_by rank_total (λ u. u.now)) (answers_always _ _ _ (λ f a r g h. search rules)));
  each = λ u h. in_kept (λ (v : Update). v.present) c.args.records.now u (contains_in present u (Contains-permutation sorted present u (IsPermutation-sym present sorted moved) (in_contains sorted u h)));
  whole = λ u h e. contains_in sorted u (Contains-permutation present sorted u moved (in_contains present u (kept_in (λ (v : Update). v.present) c.args.records.now u h e)));
}
  where
    sorted : List Update
    sorted = map (λ u. u.now) c.sort_unstable_by.new.self.items

    present : List Update
    present = filter (λ (u : Update). u.present) c.args.records.now

    all : map (λ u. u.now) c.loop-update.ranked.items ≡ present
    all = c.loop-update.invariant ∙ ap (filter (λ (u : Update). u.present)) (take_all c.loop-update.update-index c.args.records.now (omega (arith, c.loop-update-test.false)))

    moved : IsPermutation present sorted
    moved = subst (λ l. IsPermutation l sorted) all (IsPermutation-map (λ u. u.now) c.loop-update.ranked.items c.sort_unstable_by.new.self.items c.sort_unstable_by.ensures.permutation)
