use Rattle.marshal_form.proofs.Places.{forms_have_no_bad_place}
use Rattle.marshal_form.proofs.laws.forms_have_no_bad_place.Goals as goal

pub returns : goal.returns
returns c = forms_have_no_bad_place
