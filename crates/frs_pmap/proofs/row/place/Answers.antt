use Rattle.std.proofs.Common.{of_calls, rules}
use Rattle.std.proofs.lemmas.Fn.{always_returns_same}
use Rattle.frs_pmap.specs.Entries.{is_upto}
use Rattle.frs_pmap.proofs.Places.{place_is, upto_first}
use Rattle.frs_pmap.proofs.row.place.Goals as goal

pub returns-clause-place : goal.returns-clause-place
returns-clause-place g c =
    let key = c.args.key.now in
    let test = is_upto g.K.Ord.cmp key in
    let point = c.partition_point.ensures.partitioned test (always_returns_same _ _ _ (λ a r f called. search (rules, of_calls))) (upto_first g.met.K.Ord.total key c.args.items.now c.requires) in
    place_is test c.args.items.now c.partition_point.result c.partition_point.ensures.bound point
