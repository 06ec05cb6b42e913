use Rattle.std.proofs.Common.{◌≡◌, drop}
use Rattle.vol_state.specs.Paths.{home, walk}
use Rattle.vol_state.proofs.paths.home.Given as goal

-- what is left of the path leads where the whole path leads
abbrev pub invariant-loop-next : goal.invariant-loop-next
invariant-loop-next l = walk l.shelf.items l.at l.name (drop l.next-index l.rest) ≡ home l.shelf.items l.path
