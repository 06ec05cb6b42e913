use Rattle.std.proofs.Common.{◌+◌, arith}
use Rattle.std.proofs.lemmas.Result.{MatchResult-weaker, on_ok_weaker}
use Rattle.frs_disk.proofs.Ringing.{fails_on, passes_on}
use Rattle.frs_journal.proofs.Renews.{renewing_clear, renewing_fill, renewed}
use Rattle.frs_journal.proofs.slot.renew.Goals as goal

pub returns-in_default-clause-inside : goal.returns-in_default-clause-inside
returns-in_default-clause-inside g c = renewing_clear c.args.body.now (g.D.FrsDisk.states c.args.disk.now) (g.D.FrsDisk.states c.clear.new.disk) c.clear.ensures.inside

pub returns-clause-inside : goal.returns-clause-inside
returns-clause-inside g c =
    renewing_fill c.args.body.now (g.D.FrsDisk.states c.args.disk.now) (g.D.FrsDisk.states c.clear.new.disk) (g.D.FrsDisk.states c.fill.new.disk) c.clear.ensures.inside c.fill.ensures.inside

pub returns-clause-done : goal.returns-clause-done
returns-clause-done g c =
    on_ok_weaker c.fill.result (λ done. renewed c.args.body.now (g.D.FrsDisk.states c.clear.new.disk) (g.D.FrsDisk.states c.fill.new.disk) done) c.fill.ensures.done

pub returns-in_default-clause-alarm : goal.returns-in_default-clause-alarm
returns-in_default-clause-alarm g c = let h = c.in_default.ensures.alarm in (h.0, omega (arith, h.1), h.2)

pub returns-clause-alarm : goal.returns-clause-alarm
returns-clause-alarm g c =
    let first = c.in-Ok.ensures.alarm in
    MatchResult-weaker c.fill.result c.fill.ensures.alarm
    (λ _ second. passes_on 4 4 _ _ _ first second)
    (λ _ h. (4 + h.0, omega (arith, h.1), fails_on 4 h.0 _ _ _ first h.2))
