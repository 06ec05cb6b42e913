use Rattle.std.proofs.Common.{◌≡◌, map, take}
use Rattle.std.specs.List.{filter}
use Rattle.win_order.specs.declared.update.Update.{Update}
use Rattle.name_rules.proofs.named.ranked.Given as goal

-- the present ones so far
abbrev pub invariant-loop-update : goal.invariant-loop-update
invariant-loop-update l = map (λ u. u.now) l.ranked.items ≡ filter (λ (u : Update). u.present) (take l.update-index l.records)
