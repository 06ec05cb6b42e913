use Rattle.record_db.proofs.Kept.{kept_without}
use Rattle.record_db.proofs.book.Book.unstage.Goals as goal

pub invariant_of-self : goal.invariant_of-self
invariant_of-self c = rw c.cut.ensures.items (kept_without _ c.args.uid c.self.invariant)
