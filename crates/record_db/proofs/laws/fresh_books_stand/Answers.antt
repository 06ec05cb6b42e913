use Rattle.record_db.proofs.Standing.{begins_standing}
use Rattle.record_db.proofs.laws.fresh_books_stand.Goals as goal

pub returns : goal.returns
returns c = begins_standing
