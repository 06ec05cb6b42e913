use Rattle.std.proofs.Common.{◌≡◌, ◌++◌, drop, map}
use Rattle.name_rules.specs.Shown.{last_of_places}
use Rattle.name_rules.proofs.named.named.Given as goal

-- the last of the places so far, and those from here on
abbrev pub invariant-loop-at : goal.invariant-loop-at
invariant-loop-at l =
    map (λ u. u.now) l.named.items ++ last_of_places (map (λ u. u.now) (drop l.at l.update-items)) ≡ last_of_places (map (λ u. u.now) l.update-items)
