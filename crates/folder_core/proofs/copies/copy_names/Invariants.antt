use Rattle.std.proofs.Common.{◌≡◌, take}
use Rattle.folder_core.proofs.copies.copy_names.Given as goal

-- the first of the names were copied
abbrev pub invariant-loop-name : goal.invariant-loop-name
invariant-loop-name l = l.copy.items ≡ take l.name-index l.names
