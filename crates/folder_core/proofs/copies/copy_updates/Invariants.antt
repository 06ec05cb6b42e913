use Rattle.std.proofs.Common.{◌≡◌, take}
use Rattle.folder_core.proofs.copies.copy_updates.Given as goal

-- the first of the updates were copied
abbrev pub invariant-loop-update : goal.invariant-loop-update
invariant-loop-update l = l.copy.items ≡ take l.update-index l.updates
