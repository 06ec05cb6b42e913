use Rattle.record_db.proofs.Standing.{stays_standing}
use Rattle.record_db.proofs.laws.standing_books_stay.Goals as goal

pub returns : goal.returns
returns c = stays_standing
