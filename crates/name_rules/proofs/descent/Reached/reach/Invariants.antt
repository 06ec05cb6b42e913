use Rattle.std.proofs.Common.{◌≡◌, ◌++◌, ◌<◌, ◌≤◌, ℕ, List, Some, true, length, slice_get}
use Rattle.frs_base.specs.Options.{In}
use Rattle.name_rules.specs.Shown.{AreFlagged, HangsMore}
use Rattle.name_rules.proofs.descent.Reached.reach.Given as goal

-- those of the directory so far are found, and no others beside what was found before
abbrev pub invariant-loop-at : goal.invariant-loop-at
invariant-loop-at l =
    AreFlagged (length l.named) l.self.flags.items l.self.queue.items
    × ((k : ℕ) → l.first ≤ k → k < l.at → slice_get l.self.flags.items k ≡ Some true)
    × ((k : ℕ) → slice_get l.initial.self.flags.items k ≡ Some true → slice_get l.self.flags.items k ≡ Some true)
    × ((added : List ℕ) × (l.self.queue.items ≡ l.initial.self.queue.items ++ added) × ((k : ℕ) → In k added → (l.first ≤ k) × (k < l.last)))
    × HangsMore l.above l.initial.self.queue.items l.initial.self.above.items l.self.queue.items l.self.above.items
