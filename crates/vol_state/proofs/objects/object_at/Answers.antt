use Rattle.std.proofs.Common.{◌∙◌, sym, ap, Some}
use Rattle.vol_state.proofs.Searches.{found_at, not_found}
use Rattle.vol_state.proofs.objects.object_at.Goals as goal

pub returns-in-None : goal.returns-in-None
returns-in-None c = not_found c.args.fid c.args.objects.now (sym c.index_of.ensures ∙ c.in-None.is)

pub returns-in-Some : goal.returns-in-Some
returns-in-Some c =
    ap Some c.index-objects-at.is ∙ found_at c.args.fid c.in-Some.at c.args.objects.now c.index-objects-at.result (sym c.index_of.ensures ∙ c.in-Some.is)
