use Rattle.std.proofs.Common.{◌∙◌, ◌-◌, ◌<◌, ap, arith, length, rules}
use Rattle.vol_state.proofs.Chains.{last_within}
use Rattle.vol_state.proofs.hints.Hints.head.Goals as goal

pub offset_bounds-as_slice-at : goal.offset_bounds-as_slice-at
offset_bounds-as_slice-at c =
    let within = last_within c.args.key c.self.inside.links.items in
    let is = c.newest_of-at.ensures ∙ c.self.invariant.newest_is c.args.key in
    let bound : c.newest_of-at.result - 1 < length c.as_slice.result.now = omega (arith, within, is, c.if-at-eq0.false, ap length c.as_slice.ensures) in
    search rules

pub bounds-as_slice-at : goal.bounds-as_slice-at
bounds-as_slice-at c =
    let within = last_within c.args.key c.self.inside.links.items in
    let is = c.newest_of-at.ensures ∙ c.self.invariant.newest_is c.args.key in
    omega (arith, within, is, c.if-at-eq0.false, ap length c.as_slice.ensures)
