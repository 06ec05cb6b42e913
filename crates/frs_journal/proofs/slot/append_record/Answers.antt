use Rattle.std.proofs.Common.{◌+◌, arith, inl, inr}
use Rattle.std.proofs.lemmas.Result.{MatchResult-weaker, on_err_weaker}
use Rattle.frs_disk.proofs.Ringing.{passes_on, fails_on}
use Rattle.frs_journal.proofs.Gated.{appending_first, appending_second, shutting}
use Rattle.frs_journal.proofs.Landing.{first_as_armed, second_as_armed}
use Rattle.frs_journal.proofs.slot.append_record.Goals as goal

pub returns-in_default-clause-inside : goal.returns-in_default-clause-inside
returns-in_default-clause-inside g c =
    appending_first c.args.gate c.args.body.now (g.D.FrsDisk.states c.args.disk.now) (g.D.FrsDisk.states c.write_synced.new.disk) c.requires.slot c.write_synced.ensures.inside

pub returns-clause-inside : goal.returns-clause-inside
returns-clause-inside g c =
    appending_second c.args.gate c.args.body.now (g.D.FrsDisk.states c.args.disk.now) (g.D.FrsDisk.states c.write_synced.new.disk) (g.D.FrsDisk.states c.write_synced-2.new.disk)
    c.requires.slot c.write_synced.ensures.inside c.in-Ok.ensures.done c.write_synced-2.ensures.inside

pub returns-in_default-clause-early : goal.returns-in_default-clause-early
returns-in_default-clause-early g c =
    let h = c.in_default.ensures.alarm in
    inl (h.0, h.1, h.2, shutting c.args.gate c.args.body.now (g.D.FrsDisk.states c.args.disk.now) (g.D.FrsDisk.states c.write_synced.new.disk) c.requires.slot c.write_synced.ensures.inside)

pub returns-in_default-clause-alarm : goal.returns-in_default-clause-alarm
returns-in_default-clause-alarm g c = let h = c.in_default.ensures.alarm in (h.0, omega (arith, h.1), h.2)

pub returns-clause-alarm : goal.returns-clause-alarm
returns-clause-alarm g c =
    let first = c.in-Ok.ensures.alarm in
    MatchResult-weaker c.write_synced-2.result c.write_synced-2.ensures.alarm
    (λ _ second. passes_on 2 2 _ _ _ first second)
    (λ _ h. (2 + h.0, omega (arith, h.1), fails_on 2 h.0 _ _ _ first h.2))

pub returns-clause-early : goal.returns-clause-early
returns-clause-early g c =
    let first = c.in-Ok.ensures.alarm in
    MatchResult-weaker c.write_synced-2.result c.write_synced-2.ensures.alarm
    (λ _ second. tt)
    (λ _ h. inr (2 + h.0, omega arith, omega (arith, h.1), fails_on 2 h.0 _ _ _ first h.2))

pub returns-in_default-clause-word : goal.returns-in_default-clause-word
returns-in_default-clause-word g c =
    first_as_armed c.args.gate c.args.body.now (g.D.FrsDisk.alarm c.args.disk.now) (g.D.FrsDisk.alarm c.write_synced.new.disk)
    (g.D.FrsDisk.states c.args.disk.now) (g.D.FrsDisk.states c.write_synced.new.disk) c.requires.slot (returns-in_default-clause-inside g c) c.in_default.ensures.word

pub returns-clause-word : goal.returns-clause-word
returns-clause-word g c =
    on_err_weaker c.write_synced-2.result
    (second_as_armed c.args.gate c.args.body.now (g.D.FrsDisk.alarm c.args.disk.now) (g.D.FrsDisk.alarm c.write_synced.new.disk) (g.D.FrsDisk.alarm c.write_synced-2.new.disk)
    (g.D.FrsDisk.states c.args.disk.now) (g.D.FrsDisk.states c.write_synced.new.disk) (g.D.FrsDisk.states c.write_synced-2.new.disk)
    c.requires.slot (returns-clause-inside g c) c.in-Ok.ensures.alarm c.in-Ok.ensures.done) c.write_synced-2.ensures.word
