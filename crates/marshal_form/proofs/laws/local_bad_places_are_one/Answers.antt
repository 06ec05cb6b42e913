use Rattle.marshal_form.proofs.Locals.{local_bad_places_are_one}
use Rattle.marshal_form.proofs.laws.local_bad_places_are_one.Goals as goal

pub returns : goal.returns
returns c = local_bad_places_are_one
