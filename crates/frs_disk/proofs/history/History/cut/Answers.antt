use Rattle.std.proofs.Common.{rules, ◌≡◌, ◌≤◌, ◌+◌, ◌++◌, max, min, vec_len, vec_capacity, length, ap, ◌∙◌, take, if◌then◌else◌, List, ℕ}
use Rattle.frs_disk.proofs.Keeping.{kept_cut}
use Rattle.frs_disk.proofs.history.History.cut.Goals as goal

pub invariant_of-self : goal.invariant_of-self
invariant_of-self c =
    let s = c.self.inside in
    let n : ℕ = c.set_aside-self-inside.result in
    let mid : List ℕ = c.truncate.new.self.items in
    let behind : List ℕ = c.set_aside-self-inside.new.behind.items in
    let within : c.args.length ≤ length s.bytes.items = search rules in
    let is : c.bring_back_if.new.bytes.items ≡ (if c.args.lost then take n mid ++ behind else mid) =
    c.bring_back_if.ensures.items ∙ ap (λ (l : List ℕ). if c.args.lost then take n mid ++ l else mid) c.as_slice-2.ensures.value in
    let aside : take n s.bytes.items ++ behind ≡ take s.clean s.bytes.items ++ s.behind.items = rw c.as_slice.ensures.value at c.set_aside-self-inside.ensures.safe in
    let kept = kept_cut c.args.lost s.bytes.items mid c.bring_back_if.new.bytes.items s.clean n c.args.length s.behind.items behind s.trace.states c.then-self-inside.result.states
    c.self.invariant.0 within c.truncate.ensures.items is c.set_aside-self-inside.ensures.clean aside c.then-self-inside.ensures in
    let room : max (vec_len c.bring_back_if.new.bytes) (n + vec_len c.set_aside-self-inside.new.behind) ≤ min (vec_capacity c.bring_back_if.new.bytes) (vec_capacity c.set_aside-self-inside.new.behind) = search rules in
    (kept, room)

pub returns-clause-stands : goal.returns-clause-stands
returns-clause-stands c = (invariant_of-self c).0.stands
