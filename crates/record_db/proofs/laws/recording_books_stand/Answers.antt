use Rattle.record_db.proofs.Standing.{records_on}
use Rattle.record_db.proofs.laws.recording_books_stand.Goals as goal

pub returns : goal.returns
returns c = records_on
