use Rattle.std.proofs.Common.{ap, ◌∙◌}
use Rattle.frs_disk.specs.Histories.{HistoryState}
use Rattle.frs_disk.proofs.Keeping.{kept_anew}
use Rattle.frs_disk.proofs.history.History.restart.Goals as goal

pub invariant_of-self : goal.invariant_of-self
invariant_of-self c =
    let s = c.self.inside in (
      kept_anew s.bytes.items s.clean s.behind.items c.args.self.now.states s.trace.states c.then-self-inside.result.states c.self.invariant.0
          (ap (λ (h : HistoryState). h.states) c.self.view_is ∙ c.sync.ensures.states) c.then-self-inside.ensures,
      c.self.invariant.1,
    )

pub returns-clause-stands : goal.returns-clause-stands
returns-clause-stands c = (invariant_of-self c).0.stands
