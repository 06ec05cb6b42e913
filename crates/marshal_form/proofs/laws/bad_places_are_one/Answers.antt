use Rattle.marshal_form.proofs.Places.{bad_places_are_one}
use Rattle.marshal_form.proofs.laws.bad_places_are_one.Goals as goal

pub returns : goal.returns
returns c = bad_places_are_one
