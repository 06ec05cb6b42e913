use Rattle.std.proofs.Common.{◌≡◌, ◌∙◌, ◌++◌, List, drop, length, map, take, sym, ap, subst, arith}
use Rattle.std.proofs.Math.Seq.{take-append_seam}
use Rattle.std.specs.List.Sorted.{IsPermutation}
use Rattle.win_order.specs.declared.update.Update.{Update}
use Rattle.name_rules.specs.declared.rows.TreeRow.{TreeRow}
use Rattle.name_rules.specs.Rows.{AreRowsOf, AreTreeRows}
use Rattle.name_rules.specs.Shown.{Descends}
use Rattle.name_rules.proofs.Rooted.{tree_rows}
use Rattle.name_rules.proofs.trees.tree.Goals as goal

pub returns : goal.returns
returns c =
    subst (AreTreeRows c.args.records.now) (sym whole)
    (tree_rows c.args.records.now named c.in_ok-reached.reached.flags.items c.in_ok-reached.reached.queue.items c.in_ok-reached.reached.above.items c.in_ok-rows.rows.items c.requires.distinct c.in_ok-named.ensures
    (subst (λ l. Descends (map (λ u. u.now) l) c.in_ok-reached.reached.flags.items c.in_ok-reached.reached.queue.items c.in_ok-reached.reached.above.items) c.as_slice.ensures.value c.in_ok-reached.ensures)
    (subst (λ l. AreRowsOf (map (λ u. u.now) l) c.in_ok-reached.reached.queue.items c.in_ok-reached.reached.above.items c.in_ok-rows.rows.items) c.as_slice-2.ensures.value c.in_ok-rows.ensures)
    c.requires.rootless sorted
    (subst (λ l. IsPermutation l sorted) c.as_mut_slice.ensures.value c.depth_order.ensures.permutation)
    c.depth_order.ensures.ordered)
  where
    named : List Update
    named = map (λ u. u.now) c.in_ok-named.named.items

    sorted : List TreeRow
    sorted = c.depth_order.new.rows

    whole : take c.in_ok-rows.rows.len (sorted ++ drop (length sorted) c.in_ok-rows.rows.items) ≡ sorted
    whole =
        let long : c.in_ok-rows.rows.len ≡ length sorted = omega (arith, c.depth_order.auto.rows, c.as_mut_slice.ensures.len) in
        ap (λ n. take n (sorted ++ drop (length sorted) c.in_ok-rows.rows.items)) long ∙ take-append_seam sorted (drop (length sorted) c.in_ok-rows.rows.items)
