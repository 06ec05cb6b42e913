use Rattle.std.proofs.Common.{rules, ◌≡◌, ◌≤◌, ◌+◌, ◌++◌, max, min, vec_len, vec_capacity, take, ap, ◌∙◌, List, ℕ}
use Rattle.frs_disk.proofs.Keeping.{kept_lose}
use Rattle.frs_disk.proofs.history.History.lose.Goals as goal

pub invariant_of-self : goal.invariant_of-self
invariant_of-self c =
    let s = c.self.inside in
    let is : c.bring_back.new.bytes.items ≡ take s.clean s.bytes.items ++ s.behind.items =
    c.bring_back.ensures.items ∙ ap (λ (l : List ℕ). take s.clean s.bytes.items ++ l) c.as_slice.ensures.value in
    let room : max (vec_len c.bring_back.new.bytes) (s.clean + vec_len s.behind) ≤ min (vec_capacity c.bring_back.new.bytes) (vec_capacity s.behind) = search rules in
    (kept_lose s.bytes.items c.bring_back.new.bytes.items s.clean s.behind.items s.trace.states c.then-self-inside.result.states c.self.invariant.0 is c.then-self-inside.ensures, room)

pub returns-clause-stands : goal.returns-clause-stands
returns-clause-stands c = (invariant_of-self c).0.stands
