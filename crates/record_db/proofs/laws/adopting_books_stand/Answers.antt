use Rattle.record_db.proofs.Standing.{adopts_on}
use Rattle.record_db.proofs.laws.adopting_books_stand.Goals as goal

pub returns : goal.returns
returns c = adopts_on
