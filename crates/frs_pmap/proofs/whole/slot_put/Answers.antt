use Rattle.std.proofs.Common.{◌∙◌, ◌∷◌, ap, sym, subst}
use Rattle.std.specs.Prelude.{option_to_list}
use Rattle.frs_pmap.specs.Nodes.{AreParts, entries_in}
use Rattle.frs_pmap.proofs.Tables.{entries_under_held, fresh_groups}
use Rattle.frs_pmap.proofs.whole.slot_put.Goals as goal

pub returns-clause-put : goal.returns-clause-put
returns-clause-put g c =
    entries_under_held (c.settle.new.slot ∷ option_to_list c.settle.result) ∙ ap entries_in c.settle.ensures.whole ∙ c.group_put.ensures.put

pub returns-clause-groups : goal.returns-clause-groups
returns-clause-groups g c =
    fresh_groups (c.settle.new.slot ∷ option_to_list c.settle.result) c.settle.ensures.fresh (subst AreParts (sym c.settle.ensures.whole) c.group_put.ensures.parts)
