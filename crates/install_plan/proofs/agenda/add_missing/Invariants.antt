use Rattle.std.proofs.Common.{take}
use Rattle.std.specs.Prelude.{◌⊎◌}
use Rattle.frs_base.specs.Options.{In}
use Rattle.frs_base.specs.declared.version.Uid.{Uid}
use Rattle.install_plan.specs.Objects.{HasObject}
use Rattle.install_plan.proofs.agenda.add_missing.Given as goal

-- those of the list stay, and those shown so far are listed or have an object
pub record Adds (l : goal.Live-loop-uid) : Type 0 where
  pub kept : (uid : Uid) → In uid l.fn.uids.items → In uid l.uids.items
  pub missing : (uid : Uid) → In uid (take l.uid-index l.shown) → In uid l.uids.items ⊎ HasObject l.volume.state uid

abbrev pub invariant-loop-uid : goal.invariant-loop-uid
invariant-loop-uid = Adds
