use Rattle.frs_disk.specs.Crashes.{wrote}
use Rattle.frs_disk.proofs.Losing.{stops_lost}
use Rattle.frs_disk.proofs.memory.MemDiskFrsDisk.write_at.Goals as goal

pub returns-in-Stopped-clause-failed : goal.returns-in-Stopped-clause-failed
returns-in-Stopped-clause-failed c =
    rw (← c.self.view_is) (stops_lost (wrote c.args.at c.args.bytes.now) _ c.self.inside.history.states c.write-in-Stopped.new.self.states c.write-in-Stopped.ensures.states c.write-in-Stopped.ensures.stands)
