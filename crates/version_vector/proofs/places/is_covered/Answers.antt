use Rattle.std.proofs.Common.{◌∙◌, refl, sym}
use Rattle.version_vector.proofs.Searches.{none_there, one_decides}
use Rattle.version_vector.proofs.places.is_covered.Goals as goal

pub returns-in-None : goal.returns-in-None
returns-in-None c =
    none_there c.args.intervals.now c.args.intervals.now c.args.g.now c.count_below.result refl c.count_below.ensures (sym c.in-None.ensures.lookup.0)

pub returns-in-Some : goal.returns-in-Some
returns-in-Some c =
    c.holds.ensures
    ∙ one_decides c.args.intervals.now c.args.intervals.now c.args.g.now c.count_below.result c.in-Some.interval.now refl c.requires c.count_below.ensures
    (sym c.in-Some.ensures.lookup.0) c.in-Some.ensures.lookup.1
