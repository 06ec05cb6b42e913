use Rattle.folder_core.proofs.Giving.{files_have_forms}
use Rattle.folder_core.proofs.laws.files_have_forms.Goals as goal

pub returns : goal.returns
returns c = files_have_forms c.spellings_are_forms.ensures
