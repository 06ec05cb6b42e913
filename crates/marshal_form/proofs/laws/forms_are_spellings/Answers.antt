use Rattle.marshal_form.proofs.Spelled.{forms_are_spellings}
use Rattle.marshal_form.proofs.laws.forms_are_spellings.Goals as goal

pub returns : goal.returns
returns c = forms_are_spellings
