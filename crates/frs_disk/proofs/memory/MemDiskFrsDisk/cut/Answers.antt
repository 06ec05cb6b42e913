use Rattle.frs_disk.specs.Crashes.{cut_to}
use Rattle.frs_disk.proofs.Losing.{stops_lost}
use Rattle.frs_disk.proofs.memory.MemDiskFrsDisk.cut.Goals as goal

pub returns-in-Stopped-clause-failed : goal.returns-in-Stopped-clause-failed
returns-in-Stopped-clause-failed c =
    rw (← c.self.view_is) (stops_lost (cut_to c.args.length) _ c.self.inside.history.states c.cut-in-Stopped.new.self.states c.cut-in-Stopped.ensures.states c.cut-in-Stopped.ensures.stands)
