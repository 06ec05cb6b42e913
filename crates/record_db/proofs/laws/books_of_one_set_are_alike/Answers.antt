use Rattle.record_db.proofs.Standing.{are_alike}
use Rattle.record_db.proofs.laws.books_of_one_set_are_alike.Goals as goal

pub returns : goal.returns
returns c = are_alike
