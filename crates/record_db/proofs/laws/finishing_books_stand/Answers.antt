use Rattle.record_db.proofs.Standing.{finishes_on}
use Rattle.record_db.proofs.laws.finishing_books_stand.Goals as goal

pub returns : goal.returns
returns c = finishes_on
