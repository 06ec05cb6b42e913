use Rattle.std.proofs.Common.{◌∙◌, ap, sym, take, drop, map}
use Rattle.std.proofs.lemmas.List.{take-map}
use Rattle.frs_pmap.specs.Entries.{seen_one}
use Rattle.frs_pmap.proofs.Places.{drop-map}
use Rattle.frs_pmap.proofs.row.Row.split_off.Goals as goal

pub returns-clause-front : goal.returns-clause-front
returns-clause-front g c = ap (map seen_one) c.in_ok-split_off.ensures.items ∙ sym (take-map seen_one c.args.at c.self.inside.items.items) ∙ ap (take c.args.at) c.self.view_is

pub returns-clause-back : goal.returns-clause-back
returns-clause-back g c = ap (map seen_one) c.in_ok-split_off.ensures.tail ∙ sym (drop-map seen_one c.args.at c.self.inside.items.items) ∙ ap (drop c.args.at) c.self.view_is
