use Rattle.record_db.proofs.Standing.{unstages_on}
use Rattle.record_db.proofs.laws.unstaging_books_stand.Goals as goal

pub returns : goal.returns
returns c = unstages_on
