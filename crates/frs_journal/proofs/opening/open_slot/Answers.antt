use Rattle.std.proofs.Common.{rules, ◌≡◌, arith, ◌+◌, ◌-◌, ◌%◌, ◌^◌, length}
use Rattle.frs_disk.proofs.Ringing.{passes_same}
use Rattle.frs_journal.specs.Slots.{serial_at}
use Rattle.frs_journal.proofs.Openings.{open_done, open_inside, opened_size, origin_kept}
use Rattle.frs_journal.proofs.opening.open_slot.Goals as goal

pub returns-in_default-trim-clause-inside : goal.returns-in_default-trim-clause-inside
returns-in_default-trim-clause-inside g c =
    let w = rw c.in-Whole.is at c.in-Ok.ensures in
    open_inside g.M.Machine.law c.args.bytes.now c.in-Whole.end c.in-Whole.saved c.in-Whole.commands.items (g.D.FrsDisk.states c.args.disk.now) (g.D.FrsDisk.states c.reserve.new.self) (g.D.FrsDisk.states c.trim.new.disk)
    w c.requires.bytes c.reserve.ensures.states c.trim.ensures.inside

pub returns-clause-inside : goal.returns-clause-inside
returns-clause-inside g c =
    let w = rw c.in-Whole.is at c.in-Ok.ensures in
    open_inside g.M.Machine.law c.args.bytes.now c.in-Whole.end c.in-Whole.saved c.in-Whole.commands.items (g.D.FrsDisk.states c.args.disk.now) (g.D.FrsDisk.states c.reserve.new.self) (g.D.FrsDisk.states c.trim.new.disk)
    w c.requires.bytes c.reserve.ensures.states c.trim.ensures.inside

pub returns-clause-done : goal.returns-clause-done
returns-clause-done g c =
    let w = rw c.in-Whole.is at c.in-Ok.ensures in
    let n : (c.first_serial.result + (c.len.result - c.in-Whole.saved)) % 2 ^ 64 ≡ (serial_at c.args.bytes.now + (length c.in-Whole.commands.items - c.in-Whole.saved)) % 2 ^ 64 = search rules in
    open_done g.M.Machine.law (g.M.Machine.state c.args.machine) (g.M.Machine.state c.in-Ok-run_all.machine) c.args.bytes.now c.in-Whole.end c.in-Whole.saved ((c.first_serial.result + (c.len.result - c.in-Whole.saved)) % 2 ^ 64) c.in-Whole.commands.items
    (g.D.FrsDisk.states c.args.disk.now) (g.D.FrsDisk.states c.reserve.new.self) (g.D.FrsDisk.states c.trim.new.disk)
    w c.requires.bytes c.reserve.ensures.states c.in-Ok-trim.ensures.done c.in-Ok-run_all.ensures n

pub returns-clause-low : goal.returns-clause-low
returns-clause-low g c =
    let w = rw c.in-Whole.is at c.in-Ok.ensures in
    (opened_size g.M.Machine.law c.args.bytes.now c.in-Whole.end c.in-Whole.saved c.in-Whole.commands.items w).0

pub returns-clause-high : goal.returns-clause-high
returns-clause-high g c =
    let w = rw c.in-Whole.is at c.in-Ok.ensures in
    let both = opened_size g.M.Machine.law c.args.bytes.now c.in-Whole.end c.in-Whole.saved c.in-Whole.commands.items w in
    omega (arith, both.1, c.requires.size)

pub returns-clause-origin : goal.returns-clause-origin
returns-clause-origin g c = origin_kept g.M.Machine.law g.met.M.Machine.lawful.keeps_origin (g.M.Machine.state c.args.machine) (g.M.Machine.state c.in-Ok-run_all.machine) c.in-Whole.commands.items c.in-Ok-run_all.ensures

pub returns-in_default-run_all-clause-halts : goal.returns-in_default-run_all-clause-halts
returns-in_default-run_all-clause-halts g c =
    let x = g.D.FrsDisk.alarm in
    passes_same (x c.args.disk.now) (x c.reserve.new.self) c.reserve.ensures.alarm
