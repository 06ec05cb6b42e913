use Rattle.std.proofs.Common.{inl, inr}
use Rattle.frs_disk.specs.Alarms.{PassesSome}
use Rattle.frs_disk.proofs.Ringing.{fails_now, fails_some, passes_same, passes_some}
use Rattle.frs_journal.proofs.Counting.{halts_behind, halts_first, halts_second}
use Rattle.frs_journal.proofs.loading.read_both.Goals as goal

pub returns-in_default-settle-clause-halts : goal.returns-in_default-settle-clause-halts
returns-in_default-settle-clause-halts g c =
    let x = g.D.FrsDisk.alarm in
    inl (
      fails_some (x c.args.a.now) (x c.reserve.new.self) (x c.settle.new.disk) (passes_same (x c.args.a.now) (x c.reserve.new.self) c.reserve.ensures.alarm) (fails_now (x c.reserve.new.self) (x c.settle.new.disk) c.in_default-settle.ensures.alarm),
      c.faults.ensures,
      passes_same (x c.args.b.now) (x c.reserve-2.new.self) c.reserve-2.ensures.alarm,
    )

pub returns-in_default-settle-2-clause-halts : goal.returns-in_default-settle-2-clause-halts
returns-in_default-settle-2-clause-halts g c =
    let x = g.D.FrsDisk.alarm in
    inr (
      passes_some (x c.args.a.now) (x c.reserve.new.self) (x c.settle.new.disk) (passes_same (x c.args.a.now) (x c.reserve.new.self) c.reserve.ensures.alarm) (1, c.in-Ok-settle.ensures.alarm),
      fails_some (x c.args.b.now) (x c.reserve-2.new.self) (x c.settle-2.new.disk) (passes_same (x c.args.b.now) (x c.reserve-2.new.self) c.reserve-2.ensures.alarm) (fails_now (x c.reserve-2.new.self) (x c.settle-2.new.disk) c.in_default-settle-2.ensures.alarm),
      c.faults-in_default-settle-2.ensures,
    )

pub returns-in-Err-clause-halts : goal.returns-in-Err-clause-halts
returns-in-Err-clause-halts g c =
    let x = g.D.FrsDisk.alarm in
    let first : PassesSome (x c.args.a.now) (x c.settle.new.disk) = passes_some (x c.args.a.now) (x c.reserve.new.self) (x c.settle.new.disk) (passes_same (x c.args.a.now) (x c.reserve.new.self) c.reserve.ensures.alarm) (1, c.in-Ok-settle.ensures.alarm) in
    let second : PassesSome (x c.args.b.now) (x c.settle-2.new.disk) = passes_some (x c.args.b.now) (x c.reserve-2.new.self) (x c.settle-2.new.disk) (passes_same (x c.args.b.now) (x c.reserve-2.new.self) c.reserve-2.ensures.alarm) (1, c.in-Ok-settle-2.ensures.alarm) in
    halts_first c.in-Err.why (x c.args.a.now) (x c.read_all.new.disk) (x c.args.b.now) (x c.settle-2.new.disk) (halts_behind c.in-Err.why (x c.args.a.now) (x c.settle.new.disk) (x c.read_all.new.disk) first c.in-Err.ensures.halts) second

pub returns-in-Err-read_all-clause-halts : goal.returns-in-Err-read_all-clause-halts
returns-in-Err-read_all-clause-halts g c =
    let x = g.D.FrsDisk.alarm in
    let first : PassesSome (x c.args.a.now) (x c.settle.new.disk) = passes_some (x c.args.a.now) (x c.reserve.new.self) (x c.settle.new.disk) (passes_same (x c.args.a.now) (x c.reserve.new.self) c.reserve.ensures.alarm) (1, c.in-Ok-settle.ensures.alarm) in
    let second : PassesSome (x c.args.b.now) (x c.settle-2.new.disk) = passes_some (x c.args.b.now) (x c.reserve-2.new.self) (x c.settle-2.new.disk) (passes_same (x c.args.b.now) (x c.reserve-2.new.self) c.reserve-2.ensures.alarm) (1, c.in-Ok-settle-2.ensures.alarm) in
    halts_second c.in-Err-read_all.why (x c.args.a.now) (x c.read_all.new.disk) (x c.args.b.now) (x c.read_all-2.new.disk)
    (passes_some (x c.args.a.now) (x c.settle.new.disk) (x c.read_all.new.disk) first (passes_same (x c.settle.new.disk) (x c.read_all.new.disk) c.in-Ok-read_all.ensures.alarm))
    (halts_behind c.in-Err-read_all.why (x c.args.b.now) (x c.settle-2.new.disk) (x c.read_all-2.new.disk) second c.in-Err-read_all.ensures.halts)
