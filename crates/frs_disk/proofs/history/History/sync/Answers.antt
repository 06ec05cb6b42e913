use Rattle.std.proofs.Common.{rules, ◌≤◌, ◌+◌, max, min, vec_len, vec_capacity}
use Rattle.frs_disk.proofs.Keeping.{kept_sync}
use Rattle.frs_disk.proofs.history.History.sync.Goals as goal

pub invariant_of-self : goal.invariant_of-self
invariant_of-self c =
    let s = c.self.inside in
    let room : max (vec_len s.bytes) (c.len-self-inside.result + vec_len c.clear.new.self) ≤ min (vec_capacity s.bytes) (vec_capacity c.clear.new.self) = search rules in (
      kept_sync s.bytes.items s.clean c.len-self-inside.result s.behind.items c.clear.new.self.items s.trace.states c.then-self-inside.result.states
          c.self.invariant.0 (search rules) c.clear.ensures.items c.then-self-inside.ensures,
      room,
    )

pub returns-clause-stands : goal.returns-clause-stands
returns-clause-stands c = (invariant_of-self c).0.stands
