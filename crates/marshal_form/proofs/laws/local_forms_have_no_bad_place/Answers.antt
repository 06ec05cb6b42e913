use Rattle.marshal_form.proofs.Locals.{local_forms_have_no_bad_place}
use Rattle.marshal_form.proofs.laws.local_forms_have_no_bad_place.Goals as goal

pub returns : goal.returns
returns c = local_forms_have_no_bad_place
