use Rattle.std.proofs.Common.{take}
use Rattle.std.specs.Prelude.{◌⊎◌}
use Rattle.frs_base.specs.Options.{In}
use Rattle.vol_state.specs.declared.object.Object.{Object}
use Rattle.vol_state.specs.State.{uid_of}
use Rattle.install_plan.specs.Objects.{IsSettled}
use Rattle.install_plan.proofs.agenda.unsettled.Given as goal

-- the objects so far are listed or settled
abbrev pub invariant-loop-object : goal.invariant-loop-object
invariant-loop-object l = (o : Object) → In o (take l.object-index l.object-items) → In (uid_of l.own o) l.uids.items ⊎ IsSettled l.volume.state l.book.state o
