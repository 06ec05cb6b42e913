use Rattle.std.proofs.Common.{◌+◌, arith}
use Rattle.script_engine.proofs.engine.tests.try_members.Goals as goal

pub added-requires-2-clause-scene : goal.added-requires-2-clause-scene
added-requires-2-clause-scene g c = let (s, stands) = c.requires.scene in let (t, does, still) = c.in_ok-first.ensures.ok s stands in (t, still)

pub added-requires-2-clause-room : goal.added-requires-2-clause-room
added-requires-2-clause-room g c = let within = c.in_ok-first.ensures.within 0 c.requires.within in omega (arith, within)

pub added-requires-3-clause-scene : goal.added-requires-3-clause-scene
added-requires-3-clause-scene g c =
    let (s, stands) = c.requires.scene in
    let (t, does, still) = c.in_ok-first.ensures.ok s stands in
    let (u, does_more, stays) = c.in_ok-second.ensures.ok t still in (u, stays)

pub added-requires-3-clause-room : goal.added-requires-3-clause-room
added-requires-3-clause-room g c =
    let within = c.in_ok-second.ensures.within (0 + 1) (c.in_ok-first.ensures.within 0 c.requires.within) in omega (arith, within)
