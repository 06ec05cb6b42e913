use Rattle.std.proofs.Common.{sym, ap, ◌∙◌, inl, false, true}
use Rattle.std.proofs.lemmas.Result.{IfErr-weaker, IfOk-weaker}
use Rattle.frs_journal.specs.Slots.{Yields, generation_of, takes_b}
use Rattle.frs_journal.specs.Unmade.{IsNone}
use Rattle.frs_disk.proofs.Ringing.{passes_same}
use Rattle.frs_journal.proofs.Begins.{begun_loads}
use Rattle.frs_journal.proofs.Counting.{err_both, halts_first, halts_second, ok_both, passes_a, passes_b}
use Rattle.frs_journal.proofs.Moves.{still_leaves}
use Rattle.frs_journal.proofs.Moving.{loads_from}
use Rattle.frs_journal.proofs.SameLists.{valid_of}
use Rattle.frs_journal.proofs.loading.open_slots.Goals as goal

pub open_current-requires-clause-valid : goal.open_current-requires-clause-valid
open_current-requires-clause-valid g c =
    let picks = rw c.in-Taken-A.field-0-is at c.in-Taken-A.ensures in
    valid_of c.as_slice-a.result.now picks.2

pub open_current-requires-clause-yields : goal.open_current-requires-clause-yields
open_current-requires-clause-yields g c =
    let f = g.D.FrsDisk.states in
    let picks = rw (c.in-Taken-A.field-0-is, c.as_slice-b.ensures.value) at c.in-Taken-A.ensures in
    still_leaves (Yields false (generation_of c.as_slice-a.result.now)) (f c.args.disk_b) c.args.slots.now.b.items c.requires.still_b c.requires.bytes_b
    (record { good = picks.1; over = picks.3 })

pub open_current-requires-in-Taken-B-clause-valid : goal.open_current-requires-in-Taken-B-clause-valid
open_current-requires-in-Taken-B-clause-valid g c =
    let picks = rw c.in-Taken-B.field-0-is at c.in-Taken-B.ensures in
    valid_of c.as_slice-b.result.now picks.2

pub open_current-requires-in-Taken-B-clause-yields : goal.open_current-requires-in-Taken-B-clause-yields
open_current-requires-in-Taken-B-clause-yields g c =
    let f = g.D.FrsDisk.states in
    let picks = rw (c.in-Taken-B.field-0-is, c.as_slice-a.ensures.value) at c.in-Taken-B.ensures in
    still_leaves (Yields true (generation_of c.as_slice-b.result.now)) (f c.args.disk_a) c.args.slots.now.a.items c.requires.still_a c.requires.bytes_a
    (record { good = picks.0; over = picks.3 })

pub returns-in-Neither-clause-state : goal.returns-in-Neither-clause-state
returns-in-Neither-clause-state g c =
    let law = g.M.Machine.law in
    let m = g.M.Machine.state c.args.machine in
    let xs = c.args.slots.now.a.items in
    let ys = c.args.slots.now.b.items in
    let picks = rw (c.as_slice-a.ensures.value, c.as_slice-b.ensures.value) at c.in-Neither.ensures in
    let nx : IsNone c.args.slots.now.a.items = record { fine = picks.0; unmarked = picks.2 } in
    let ny : IsNone c.args.slots.now.b.items = record { fine = picks.1; unmarked = picks.3 } in
    IfOk-weaker c.begin.result _ _
    (λ j h. loads_from law (g.M.Machine.state j.machine) m j.serial 0 xs ys (sym (ap g.M.Machine.state h.0)) (sym h.2) (begun_loads law m xs ys c.requires.fresh (inl nx) ny))
    c.begin.ensures.made

pub returns-in-Taken-A-clause-taken : goal.returns-in-Taken-A-clause-taken
returns-in-Taken-A-clause-taken g c =
    let picks = rw (c.in-Taken-A.field-0-is, c.as_slice-a.ensures.value, c.as_slice-b.ensures.value) at c.in-Taken-A.ensures in
    IfOk-weaker c.open_current.result _ _ (λ j h. h.2 ∙ sym picks.3) c.open_current.ensures.moved

pub returns-in-Taken-B-clause-taken : goal.returns-in-Taken-B-clause-taken
returns-in-Taken-B-clause-taken g c =
    let picks = rw (c.in-Taken-B.field-0-is, c.as_slice-a.ensures.value, c.as_slice-b.ensures.value) at c.in-Taken-B.ensures in
    IfOk-weaker c.open_current-in-Taken-B.result _ _ (λ j h. h.2 ∙ sym picks.3) c.open_current-in-Taken-B.ensures.moved

pub returns-in-Neither-clause-taken : goal.returns-in-Neither-clause-taken
returns-in-Neither-clause-taken g c =
    let picks = rw (c.as_slice-a.ensures.value, c.as_slice-b.ensures.value) at c.in-Neither.ensures in
    IfOk-weaker c.begin.result _ _ (λ j h. h.2 ∙ sym (λ i. takes_b (picks.2 i) (picks.3 i))) c.begin.ensures.moved

pub returns-in-Taken-A-clause-alarm : goal.returns-in-Taken-A-clause-alarm
returns-in-Taken-A-clause-alarm g c =
    IfOk-weaker c.open_current.result _ _ (λ j h. passes_a g.D.FrsDisk.alarm c.args.disk_a c.args.disk_b j h.1 h.0.1 h.0.2)
    (ok_both c.open_current.result _ _ c.open_current.ensures.moved c.open_current.ensures.alarm)

pub returns-in-Taken-B-clause-alarm : goal.returns-in-Taken-B-clause-alarm
returns-in-Taken-B-clause-alarm g c =
    IfOk-weaker c.open_current-in-Taken-B.result _ _ (λ j h. passes_b g.D.FrsDisk.alarm c.args.disk_b c.args.disk_a j h.1 h.0.1 h.0.2)
    (ok_both c.open_current-in-Taken-B.result _ _ c.open_current-in-Taken-B.ensures.moved c.open_current-in-Taken-B.ensures.alarm)

pub returns-in-Neither-clause-alarm : goal.returns-in-Neither-clause-alarm
returns-in-Neither-clause-alarm g c =
    IfOk-weaker c.begin.result _ _ (λ j h. passes_a g.D.FrsDisk.alarm c.args.disk_a c.args.disk_b j (8, h.1) h.0.1 h.0.2)
    (ok_both c.begin.result _ _ c.begin.ensures.moved c.begin.ensures.alarm)

pub returns-in-Taken-A-clause-halts : goal.returns-in-Taken-A-clause-halts
returns-in-Taken-A-clause-halts g c =
    let x = g.D.FrsDisk.alarm in
    IfErr-weaker c.open_current.result _ _ (λ f h. halts_first f.why (x c.args.disk_a) (x f.disk_a) (x c.args.disk_b) (x f.disk_b) h.1 (passes_same (x c.args.disk_b) (x f.disk_b) (ap x h.0.1)))
    (err_both c.open_current.result _ _ c.open_current.ensures.failed c.open_current.ensures.halts)

pub returns-in-Taken-B-clause-halts : goal.returns-in-Taken-B-clause-halts
returns-in-Taken-B-clause-halts g c =
    let x = g.D.FrsDisk.alarm in
    IfErr-weaker c.open_current-in-Taken-B.result _ _ (λ f h. halts_second f.why (x c.args.disk_a) (x f.disk_a) (x c.args.disk_b) (x f.disk_b) (passes_same (x c.args.disk_a) (x f.disk_a) (ap x h.0.1)) h.1)
    (err_both c.open_current-in-Taken-B.result _ _ c.open_current-in-Taken-B.ensures.failed c.open_current-in-Taken-B.ensures.halts)

pub returns-in-Neither-clause-halts : goal.returns-in-Neither-clause-halts
returns-in-Neither-clause-halts g c =
    let x = g.D.FrsDisk.alarm in
    IfErr-weaker c.begin.result _ _ (λ f h. halts_first f.why (x c.args.disk_a) (x f.disk_a) (x c.args.disk_b) (x f.disk_b) h.0 (passes_same (x c.args.disk_b) (x f.disk_b) (ap x h.1)))
    c.begin.ensures.halts
