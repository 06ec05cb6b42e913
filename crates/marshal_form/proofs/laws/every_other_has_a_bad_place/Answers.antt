use Rattle.marshal_form.proofs.Deciding.{every_other_has_a_bad_place}
use Rattle.marshal_form.proofs.laws.every_other_has_a_bad_place.Goals as goal

pub returns : goal.returns
returns c = every_other_has_a_bad_place
