use Rattle.std.proofs.Common.{sym}
use Rattle.install_plan.proofs.Tested.{none_to_erase, erases}
use Rattle.install_plan.proofs.files.needs_erase.Goals as goal

pub returns-in-None : goal.returns-in-None
returns-in-None c = none_to_erase c.args.volume.now.state c.object_of.ensures.valid c.args.uid.now c.args.book.now.state (sym c.in-None.ensures.object)

pub returns-in-Some : goal.returns-in-Some
returns-in-Some c = erases c.args.volume.now.state c.object_of.ensures.valid c.args.uid.now c.args.book.now.state c.in-Some.object.now (sym c.in-Some.ensures.object) c.is_removed.result c.is_removed.ensures
