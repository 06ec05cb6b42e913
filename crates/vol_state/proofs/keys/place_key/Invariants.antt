use Rattle.std.proofs.Common.{◌≡◌, drop, map}
use Rattle.frs_base.specs.Names.{fold_unit}
use Rattle.vol_state.specs.Hints.{mixed_all, place_key}
use Rattle.vol_state.proofs.keys.place_key.Given as goal

abbrev pub invariant-loop-unit : goal.invariant-loop-unit
invariant-loop-unit l = mixed_all l.key (map fold_unit (drop l.unit-index l.unit-items)) ≡ place_key l.parent l.name
