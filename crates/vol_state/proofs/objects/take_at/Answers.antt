use Rattle.std.proofs.Common.{◌∙◌, sym, ap}
use Rattle.std.specs.List.{position}
use Rattle.vol_state.proofs.Edits.{has_fid, without_at, without_none}
use Rattle.vol_state.proofs.objects.take_at.Goals as goal

pub returns-in-Some : goal.returns-in-Some
returns-in-Some c =
    c.remove.ensures.items
    ∙ without_at c.args.fid c.in-Some.at c.args.objects.now.items (ap (position (has_fid c.args.fid)) (sym c.as_slice.ensures.value) ∙ sym c.index_of.ensures ∙ c.in-Some.is)

pub returns-in_default : goal.returns-in_default
returns-in_default c = without_none c.args.fid c.args.objects.now.items (ap (position (has_fid c.args.fid)) (sym c.as_slice.ensures.value) ∙ sym c.index_of.ensures ∙ c.in_default.is)
