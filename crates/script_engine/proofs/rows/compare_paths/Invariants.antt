use Rattle.std.proofs.Common.{◌≡◌, drop, map}
use Rattle.script_engine.specs.Rows.{path_cmp}
use Rattle.script_engine.proofs.rows.compare_paths.Given as goal

-- the names so far are the same
abbrev pub invariant-loop-at : goal.invariant-loop-at
invariant-loop-at l =
    path_cmp (map (λ name. name.now) (drop l.at l.a)) (map (λ name. name.now) (drop l.at l.b)) ≡ path_cmp (map (λ name. name.now) l.a) (map (λ name. name.now) l.b)
