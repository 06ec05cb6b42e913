use Rattle.std.proofs.Common.{ltb, rules}
use Rattle.std.proofs.lemmas.List.Sorted.{IsPartitionPoint-from_clause, IsPartitionedBy-ltb}
use Rattle.vol_state.specs.declared.object.Object.{Object}
use Rattle.vol_state.proofs.Searches.{rising_by}
use Rattle.vol_state.proofs.objects.first_from.Goals as goal

pub returns-clause-point : goal.returns-clause-point
returns-clause-point c =
    IsPartitionPoint-from_clause (λ (o : Object). ltb o.fid c.args.fid) c.args.objects.now c.partition_point.result c.partition_point.ensures.partitioned
    (IsPartitionedBy-ltb (λ (o : Object). o.fid) c.args.objects.now c.args.fid (rising_by 0 c.args.objects.now c.requires))
    (λ a r f' k. search rules)
