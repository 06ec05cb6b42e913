use Rattle.std.proofs.Common.{◌≡◌, take}
use Rattle.std.specs.List.{filter_map}
use Rattle.script_engine.specs.Rows.{row_of}
use Rattle.script_engine.proofs.rows.rows_of.Given as goal

-- the rows of the objects so far
abbrev pub invariant-loop-object : goal.invariant-loop-object
invariant-loop-object l = l.rows.items ≡ filter_map (row_of l.volume.state.objects) (take l.object-index l.volume.state.objects)
