use Rattle.ndr_core.proofs.Loops.{all_true}
use Rattle.ndr_frs.proofs.request_writing.put_page.Goals as goal

pub put_many-requires : goal.put_many-requires
put_many-requires c = all_true c.args.diff.now
