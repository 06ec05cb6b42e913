use Rattle.std.proofs.Common.{not, of_calls, rules}
use Rattle.std.proofs.lemmas.Fn.{always_returns_same}
use Rattle.frs_base.specs.Versions.{uid_lt}
use Rattle.name_rules.proofs.Children.{are_children, begin_parts, end_parts}
use Rattle.name_rules.proofs.descent.children.Goals as goal

pub returns : goal.returns
returns c =
    let begin = c.partition_point-first.ensures.partitioned (λ u. uid_lt u.now.parent c.args.parent) (always_returns_same _ _ _ (λ a r f called. search (rules, of_calls)))
    (begin_parts (λ u. u.now) c.args.parent c.args.named.now c.requires) in
    let end = c.partition_point-last.ensures.partitioned (λ u. not (uid_lt c.args.parent u.now.parent)) (always_returns_same _ _ _ (λ a r f called. search (rules, of_calls)))
    (end_parts (λ u. u.now) c.args.parent c.args.named.now c.requires) in
    are_children (λ u. u.now) c.args.parent c.args.named.now c.partition_point-first.result c.partition_point-last.result c.partition_point-last.ensures.bound begin end
