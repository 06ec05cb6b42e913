use Rattle.frs_disk.proofs.Losing.{stops_synced, stops_losing}
use Rattle.frs_disk.proofs.memory.MemDiskFrsDisk.sync.Goals as goal

pub returns-in-Stopped-With-clause-failed : goal.returns-in-Stopped-With-clause-failed
returns-in-Stopped-With-clause-failed c =
    rw (← c.self.view_is) (stops_synced c.self.inside.history.states c.sync-in-Stopped-With.new.self.states c.sync-in-Stopped-With.ensures.states c.self.invariant.2)

pub returns-in-Stopped-Without-clause-failed : goal.returns-in-Stopped-Without-clause-failed
returns-in-Stopped-Without-clause-failed c =
    rw (← c.self.view_is) (stops_losing c.self.inside.history.states c.lose.new.self.states c.lose.ensures.states c.lose.ensures.stands)
