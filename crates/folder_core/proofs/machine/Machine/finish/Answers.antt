use Rattle.folder_core.proofs.Finishing.{may_finish}
use Rattle.folder_core.proofs.machine.Machine.finish.Goals as goal

pub cover-requires-clause-sound : goal.cover-requires-clause-sound
cover-requires-clause-sound c = may_finish c.args.self.now c.args.sent c.least_ahead.ensures.sound c.in_default.ensures.least
