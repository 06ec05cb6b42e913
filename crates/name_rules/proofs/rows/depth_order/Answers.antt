use Rattle.std.proofs.Common.{is_lt, rules}
use Rattle.std.proofs.lemmas.List.Sorted.{answers_always, ranks_by}
use Rattle.name_rules.specs.Rows.{depth_cmp}
use Rattle.name_rules.proofs.Deepening.{depth_total, sorted_by_depth}
use Rattle.name_rules.proofs.rows.depth_order.Goals as goal

pub returns-clause-ordered : goal.returns-clause-ordered
returns-clause-ordered c =
    sorted_by_depth c.sort_unstable_by.new.self
    (c.sort_unstable_by.ensures.sorted (λ a b. is_lt (depth_cmp a.path b.path)) (ranks_by depth_total (λ r. r.path)) (answers_always _ _ _ (λ f a r g h. search rules)))
