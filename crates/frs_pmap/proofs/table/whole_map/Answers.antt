use Rattle.std.proofs.Common.{◌∙◌, ap, sym, subst}
use Rattle.frs_pmap.specs.Trees.{IsTree, entries_of}
use Rattle.frs_pmap.proofs.Shares.{entries_kept, rows_entries, rows_len, rows_tree}
use Rattle.frs_pmap.proofs.table.whole_map.Goals as goal

pub returns-in_err-root-clause-same : goal.returns-in_err-root-clause-same
returns-in_err-root-clause-same g c = entries_kept c.args.whole.now.items.items c.whole_share.new.whole.items.items c.whole_share.ensures.rows

pub returns-in_err-root-clause-len : goal.returns-in_err-root-clause-len
returns-in_err-root-clause-len g c = rows_len c.args.whole.now.items.items c.whole_share.new.whole.items.items c.whole_share.ensures.rows

pub of-requires : goal.of-requires
of-requires g c = subst (IsTree g.K.Ord.cmp) (sym c.in_ok-root.ensures.row) (rows_tree c.args.whole.now c.requires)

pub returns-clause-same : goal.returns-clause-same
returns-clause-same g c = entries_kept c.args.whole.now.items.items c.whole_share.new.whole.items.items c.whole_share.ensures.rows

pub returns-clause-len : goal.returns-clause-len
returns-clause-len g c = rows_len c.args.whole.now.items.items c.whole_share.new.whole.items.items c.whole_share.ensures.rows

pub returns-clause-map : goal.returns-clause-map
returns-clause-map g c = c.of.ensures ∙ ap entries_of c.in_ok-root.ensures.row ∙ rows_entries c.args.whole.now.items.items
