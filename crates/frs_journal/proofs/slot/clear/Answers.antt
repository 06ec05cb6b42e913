use Rattle.std.proofs.Common.{◌+◌, arith}
use Rattle.std.proofs.lemmas.Result.{MatchResult-weaker}
use Rattle.frs_disk.proofs.Ringing.{fails_on, passes_on}
use Rattle.frs_journal.proofs.Clears.{clearing_cut, clearing_byte}
use Rattle.frs_journal.proofs.slot.clear.Goals as goal

pub returns-in_default-clause-inside : goal.returns-in_default-clause-inside
returns-in_default-clause-inside g c =
    clearing_cut (g.D.FrsDisk.states c.args.disk.now) (g.D.FrsDisk.states c.cut_synced.new.disk) c.requires.still c.cut_synced.ensures.inside

pub returns-clause-inside : goal.returns-clause-inside
returns-clause-inside g c =
    clearing_byte (g.D.FrsDisk.states c.args.disk.now) (g.D.FrsDisk.states c.cut_synced.new.disk) (g.D.FrsDisk.states c.write_synced.new.disk)
    c.requires.still c.cut_synced.ensures.inside c.in-Ok.ensures.done c.write_synced.ensures.inside

pub returns-in_default-clause-alarm : goal.returns-in_default-clause-alarm
returns-in_default-clause-alarm g c = let h = c.in_default.ensures.alarm in (h.0, omega (arith, h.1), h.2)

pub returns-clause-alarm : goal.returns-clause-alarm
returns-clause-alarm g c =
    let first = c.in-Ok.ensures.alarm in
    MatchResult-weaker c.write_synced.result c.write_synced.ensures.alarm
    (λ _ second. passes_on 2 2 _ _ _ first second)
    (λ _ h. (2 + h.0, omega (arith, h.1), fails_on 2 h.0 _ _ _ first h.2))
