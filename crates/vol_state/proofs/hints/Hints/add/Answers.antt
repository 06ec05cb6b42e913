use Rattle.std.proofs.Common.{◌∙◌, ◌+◌, ap, length, List}
use Rattle.vol_state.specs.declared.hints.Link.{Link}
use Rattle.vol_state.specs.Hints.{newest_after, newest_of}
use Rattle.vol_state.proofs.Chains.{threaded_push}
use Rattle.vol_state.proofs.hints.Hints.add.Goals as goal

pub invariant_of-self : goal.invariant_of-self
invariant_of-self c =
    let previous = c.newest_of-previous.ensures ∙ c.self.invariant.newest_is c.args.key in
    rw (c.push.ensures.items, previous) (threaded_push c.self.inside.newest c.put_newest.new.newest c.self.inside.links.items c.args.key c.args.fid c.self.invariant
    (λ k. c.put_newest.ensures.same k ∙ ap (λ (ls : List Link). newest_after (newest_of c.self.inside.newest k) k c.args.key (length ls + 1)) c.as_slice-count.ensures))
