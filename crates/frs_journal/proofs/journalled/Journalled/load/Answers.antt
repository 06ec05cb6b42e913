use Rattle.std.proofs.lemmas.Result.{IfErr-weaker, IfOk-weaker}
use Rattle.frs_journal.specs.Loads.{LoadsEither}
use Rattle.frs_disk.proofs.Ringing.{passes_faults, passes_some}
use Rattle.frs_journal.proofs.Counting.{halts_from, load_from, unread_load}
use Rattle.frs_journal.proofs.Moves.{load_crash, read_before, seen_before}
use Rattle.frs_journal.proofs.Readings.{read_damaged, settle_crash, unread_damaged}
use Rattle.frs_journal.proofs.journalled.Journalled.load.Goals as goal

pub returns-in-Ok-clause-crash : goal.returns-in-Ok-clause-crash
returns-in-Ok-clause-crash g c =
    let f = g.D.FrsDisk.states in
    let e = c.in-Ok.ensures in
    let s = c.in-Ok.slots in
    IfOk-weaker c.open_slots.result _ _
    (λ j opens m n k l now. load_crash g.M.Machine.law m n k l s.a.items s.b.items (f c.args.disk_a) (f c.read_both.new.a) _ (f c.args.disk_b) (f c.read_both.new.b) _ now
    (seen_before s.a.items (f c.args.disk_a) (f c.read_both.new.a) e.stood_a e.settled_a e.bytes_a) (seen_before s.b.items (f c.args.disk_b) (f c.read_both.new.b) e.stood_b e.settled_b e.bytes_b)
    c.read_both.ensures.inside_a c.read_both.ensures.inside_b opens)
    c.open_slots.ensures.opened

pub returns-in-Ok-clause-failed : goal.returns-in-Ok-clause-failed
returns-in-Ok-clause-failed g c =
    let f = g.D.FrsDisk.states in
    let e = c.in-Ok.ensures in
    let s = c.in-Ok.slots in
    IfErr-weaker c.open_slots.result _ _
    (λ fault opens m n k l now. load_crash g.M.Machine.law m n k l s.a.items s.b.items (f c.args.disk_a) (f c.read_both.new.a) _ (f c.args.disk_b) (f c.read_both.new.b) _ now
    (seen_before s.a.items (f c.args.disk_a) (f c.read_both.new.a) e.stood_a e.settled_a e.bytes_a) (seen_before s.b.items (f c.args.disk_b) (f c.read_both.new.b) e.stood_b e.settled_b e.bytes_b)
    c.read_both.ensures.inside_a c.read_both.ensures.inside_b opens)
    c.open_slots.ensures.failed

pub returns-in-Err-clause-failed : goal.returns-in-Err-clause-failed
returns-in-Err-clause-failed g c = λ m n k l now.
    (let f = g.D.FrsDisk.states in
    settle_crash (LoadsEither g.M.Machine.law m k n l) (f c.args.disk_a) (f c.read_both.new.a) (f c.args.disk_b) (f c.read_both.new.b) now c.read_both.ensures.inside_a c.read_both.ensures.inside_b)

pub returns-in-Err-clause-damaged : goal.returns-in-Err-clause-damaged
returns-in-Err-clause-damaged g c = unread_damaged g.M.Machine.law c.in-Err.why _ _ _ _ (g.D.FrsDisk.states c.args.disk_a) (g.D.FrsDisk.states c.args.disk_b) c.in-Err.ensures.why

pub returns-in-Err-clause-fault : goal.returns-in-Err-clause-fault
returns-in-Err-clause-fault g c = unread_load c.in-Err.why _ _ _ _ c.in-Err.ensures.why

pub returns-in-Ok-clause-fault : goal.returns-in-Ok-clause-fault
returns-in-Ok-clause-fault g c =
    let e = c.in-Ok.ensures in
    let x = g.D.FrsDisk.alarm in
    IfErr-weaker c.open_slots.result _ _
    (λ f h. load_from f.why (x c.args.disk_a).faults (x c.read_both.new.a).faults (x f.disk_a).faults (x c.args.disk_b).faults (x c.read_both.new.b).faults (x f.disk_b).faults
    (passes_faults 1 (x c.args.disk_a) (x c.read_both.new.a) e.passed_a) (passes_faults 1 (x c.args.disk_b) (x c.read_both.new.b) e.passed_b) h)
    c.open_slots.ensures.fault

pub returns-in-Ok-clause-state : goal.returns-in-Ok-clause-state
returns-in-Ok-clause-state g c =
    let f = g.D.FrsDisk.states in
    let e = c.in-Ok.ensures in
    let s = c.in-Ok.slots in
    IfOk-weaker c.open_slots.result _ _
    (λ j h. (
      s.a.items,
      s.b.items,
      read_before s.a.items (f c.args.disk_a) (f c.read_both.new.a) e.stood_a e.settled_a e.bytes_a,
      read_before s.b.items (f c.args.disk_b) (f c.read_both.new.b) e.stood_b e.settled_b e.bytes_b,
      h,
    ))
    c.open_slots.ensures.state

pub returns-in-Ok-clause-damaged : goal.returns-in-Ok-clause-damaged
returns-in-Ok-clause-damaged g c =
    let f = g.D.FrsDisk.states in
    let e = c.in-Ok.ensures in
    let s = c.in-Ok.slots in
    IfErr-weaker c.open_slots.result _ _
    (λ fault h. read_damaged g.M.Machine.law s.a.items s.b.items fault.why (f c.args.disk_a) (f c.args.disk_b)
    (read_before s.a.items (f c.args.disk_a) (f c.read_both.new.a) e.stood_a e.settled_a e.bytes_a)
    (read_before s.b.items (f c.args.disk_b) (f c.read_both.new.b) e.stood_b e.settled_b e.bytes_b) h)
    c.open_slots.ensures.damaged

pub returns-in-Ok-clause-taken : goal.returns-in-Ok-clause-taken
returns-in-Ok-clause-taken g c =
    let f = g.D.FrsDisk.states in
    let e = c.in-Ok.ensures in
    let s = c.in-Ok.slots in
    IfOk-weaker c.open_slots.result _ _
    (λ j h. (
      s.a.items,
      s.b.items,
      read_before s.a.items (f c.args.disk_a) (f c.read_both.new.a) e.stood_a e.settled_a e.bytes_a,
      read_before s.b.items (f c.args.disk_b) (f c.read_both.new.b) e.stood_b e.settled_b e.bytes_b,
      h,
    ))
    c.open_slots.ensures.taken

pub returns-in-Ok-clause-alarm : goal.returns-in-Ok-clause-alarm
returns-in-Ok-clause-alarm g c =
    let e = c.in-Ok.ensures in
    let x = g.D.FrsDisk.alarm in
    IfOk-weaker c.open_slots.result _ _
    (λ j h. (passes_some (x c.args.disk_a) (x c.read_both.new.a) _ (1, e.passed_a) h.0, passes_some (x c.args.disk_b) (x c.read_both.new.b) _ (1, e.passed_b) h.1))
    c.open_slots.ensures.alarm

pub returns-in-Ok-clause-halts : goal.returns-in-Ok-clause-halts
returns-in-Ok-clause-halts g c =
    let e = c.in-Ok.ensures in
    let x = g.D.FrsDisk.alarm in
    IfErr-weaker c.open_slots.result _ _
    (λ fault h. halts_from fault.why (x c.args.disk_a) (x c.read_both.new.a) (x fault.disk_a) (x c.args.disk_b) (x c.read_both.new.b) (x fault.disk_b) (1, e.passed_a) (1, e.passed_b) h)
    c.open_slots.ensures.halts
