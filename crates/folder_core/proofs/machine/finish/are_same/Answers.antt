use Rattle.std.proofs.Common.{◌∙◌, ap, sym}
use Rattle.std.specs.Cmp.Lexicographic.{pointwise}
use Rattle.folder_core.proofs.Finishing.{interval_same, interval_told, list_told, lists_told, same_interval}
use Rattle.folder_core.proofs.machine.finish.are_same.Goals as goal

pub returns : goal.returns
returns c = (
  (λ t. sym c.intervals.ensures.intervals ∙ (lists_told same_interval interval_told c.intervals.result.now c.intervals-2.result.now (sym c.eq.ensures ∙ t) ∙ c.intervals-2.ensures.intervals)),
  (λ e. c.eq.ensures ∙ (ap (λ l. pointwise same_interval c.intervals.result.now l) (c.intervals-2.ensures.intervals ∙ (sym e ∙ sym c.intervals.ensures.intervals)) ∙ list_told same_interval interval_same c.intervals.result.now)),
)
