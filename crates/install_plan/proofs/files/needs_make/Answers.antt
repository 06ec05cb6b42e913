use Rattle.std.proofs.Common.{sym}
use Rattle.install_plan.proofs.Tested.{made, missing}
use Rattle.install_plan.proofs.files.needs_make.Goals as goal

pub returns-in-None : goal.returns-in-None
returns-in-None c = missing c.args.volume.now.state c.object_of.ensures.valid c.args.uid.now c.args.book.now.state c.args.shown.now c.is_among.result c.requires (sym c.in-None.ensures.object) c.is_among.ensures

pub returns-in-Some : goal.returns-in-Some
returns-in-Some c = made c.args.volume.now.state c.object_of.ensures.valid c.args.uid.now c.args.book.now.state c.in-Some.field-0.now (sym c.in-Some.ensures.object)
