use Rattle.std.proofs.Common.{◌∙◌, sym}
use Rattle.vol_state.proofs.Trees.{none_in_file}
use Rattle.vol_state.proofs.objects.has_children_in.Goals as goal

pub returns-then-is_file_in : goal.returns-then-is_file_in
returns-then-is_file_in c = sym (none_in_file c.args.objects.now c.args.fid c.requires c.if-fid-ne0.true (sym c.is_file_in.ensures ∙ c.if-is_file_in.true))
