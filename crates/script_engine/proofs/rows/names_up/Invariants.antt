use Rattle.std.proofs.Common.{◌≡◌, ◌-◌, length, map}
use Rattle.script_engine.specs.Rows.{names_up}
use Rattle.script_engine.proofs.Climbing.{behind}
use Rattle.script_engine.proofs.rows.names_up.Given as goal

-- the names so far, and those from here on
abbrev pub invariant-loop-step : goal.invariant-loop-step
invariant-loop-step l =
    behind (map (λ name. name.now) l.names.items) (names_up l.volume.state.objects (length l.volume.state.objects - l._step) l.at.place)
    ≡ names_up l.volume.state.objects (length l.volume.state.objects) l.object.place
