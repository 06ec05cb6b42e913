use Rattle.record_db.proofs.Standing.{finds_records}
use Rattle.record_db.proofs.laws.books_find_winners.Goals as goal

pub returns : goal.returns
returns c = finds_records
