use Rattle.std.proofs.Common.{subst, refl, rules}
use Rattle.std.proofs.lemmas.List.Sorted.{answers_always}
use Rattle.std.specs.List.Sorted.{IsPermutation}
use Rattle.vol_state.specs.Maps.{maps_of}
use Rattle.script_engine.proofs.Sorting.{row_lt, rows_rank, sorted_tree}
use Rattle.script_engine.proofs.rows.tree_rows.Goals as goal

pub returns : goal.returns
returns c =
    let v = c.args.volume.now.state in
    let rows = c.sort_unstable_by.new.self.items in
    sorted_tree v.objects (maps_of v) (record { tree = c.rows_of.ensures.valid.tree; finds = λ fid. refl }) rows
    (subst (λ l. IsPermutation l rows) c.in_ok-rows.ensures.rows c.sort_unstable_by.ensures.permutation)
    (c.sort_unstable_by.ensures.sorted row_lt rows_rank (answers_always _ _ _ (λ f a r g h. search rules)))
