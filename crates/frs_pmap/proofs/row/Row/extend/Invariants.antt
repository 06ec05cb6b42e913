use Rattle.std.proofs.Common.{◌≡◌, ◌++◌, ◌-◌, take, drop}
use Rattle.frs_pmap.specs.Entries.{seen}
use Rattle.frs_pmap.proofs.row.Row.extend.Given as goal

abbrev pub invariant-loop-at : goal.invariant-loop-at
invariant-loop-at g l = (seen l.self-inside.items.items ≡ seen l.initial.self-inside.items.items ++ take (l.at - l.from) (drop l.from (seen l.initial.other-inside.items.items))) × (l.other-inside ≡ l.initial.other-inside)
