use Rattle.std.proofs.Common.{refl}
use Rattle.frs_disk.specs.Crashes.{Crash, IsStill, Leaves}
use Rattle.frs_disk.proofs.Moments.{goes_none}
use Rattle.frs_disk.proofs.Ringing.{fails_some, passes_from, passes_same}
use Rattle.frs_journal.specs.Unmade.{IsBegun, IsNone, fresh_body}
use Rattle.frs_journal.proofs.Begins.{fresh_kept, goes_from, now_from, renew_begins}
use Rattle.frs_journal.proofs.fresh.begin.Goals as goal

pub renew-requires-clause-still : goal.renew-requires-clause-still
renew-requires-clause-still g c =
    let f = g.D.FrsDisk.states in
    now_from IsStill (f c.args.disk_a) (f c.reserve.new.self) c.reserve.ensures.states c.requires.still

pub returns-in_default-clause-failed : goal.returns-in_default-clause-failed
returns-in_default-clause-failed g c =
    let f = g.D.FrsDisk.states in
    (goes_none (Leaves IsBegun) (f c.args.disk_a) (f c.reserve.new.self) c.reserve.ensures.states, refl)

pub returns-in_default-renew-clause-failed : goal.returns-in_default-renew-clause-failed
returns-in_default-renew-clause-failed g c =
    let f = g.D.FrsDisk.states in
    let none = now_from (λ (s : Crash). IsNone s.seen) (f c.args.disk_a) (f c.reserve.new.self) c.reserve.ensures.states c.requires.none_a in
    (goes_from (Leaves IsBegun) (f c.args.disk_a) (f c.reserve.new.self) (f c.renew.new.disk) c.reserve.ensures.states (renew_begins fresh_body (f c.reserve.new.self) (f c.renew.new.disk) refl none c.renew.ensures.inside), refl)

pub at_rest-requires-clause-kept : goal.at_rest-requires-clause-kept
at_rest-requires-clause-kept g c =
    let f = g.D.FrsDisk.states in
    fresh_kept g.M.Machine.law (g.M.Machine.state c.args.machine) fresh_body (f c.renew.new.disk) (f c.args.disk_b) c.requires.fresh refl c.in-Ok-renew.ensures.done c.requires.none_b

pub returns-clause-moved : goal.returns-clause-moved
returns-clause-moved g c =
    let f = g.D.FrsDisk.states in
    let none = now_from (λ (s : Crash). IsNone s.seen) (f c.args.disk_a) (f c.reserve.new.self) c.reserve.ensures.states c.requires.none_a in
    rw c.at_rest.ensures (goes_from (Leaves IsBegun) (f c.args.disk_a) (f c.reserve.new.self) (f c.renew.new.disk) c.reserve.ensures.states (renew_begins fresh_body (f c.reserve.new.self) (f c.renew.new.disk) refl none c.renew.ensures.inside), refl, refl)

pub returns-in_default-clause-halts : goal.returns-in_default-clause-halts
returns-in_default-clause-halts g c =
    let x = g.D.FrsDisk.alarm in
    (passes_same (x c.args.disk_a) (x c.reserve.new.self) c.reserve.ensures.alarm, refl)

pub returns-in_default-renew-clause-halts : goal.returns-in_default-renew-clause-halts
returns-in_default-renew-clause-halts g c =
    let x = g.D.FrsDisk.alarm in
    let h = c.in_default-renew.ensures.alarm in
    ((fails_some (x c.args.disk_a) (x c.reserve.new.self) (x c.renew.new.disk) (passes_same (x c.args.disk_a) (x c.reserve.new.self) c.reserve.ensures.alarm) (h.0, h.2), c.faults-count.ensures), refl)

pub returns-clause-alarm : goal.returns-clause-alarm
returns-clause-alarm g c =
    let x = g.D.FrsDisk.alarm in
    rw c.at_rest.ensures (passes_from 8 (x c.args.disk_a) (x c.reserve.new.self) (x c.renew.new.disk) c.reserve.ensures.alarm c.in-Ok-renew.ensures.alarm)

pub returns-clause-slots : goal.returns-clause-slots
returns-clause-slots g c = rw c.at_rest.ensures (refl, refl, c.in-Ok-renew.ensures.done)
