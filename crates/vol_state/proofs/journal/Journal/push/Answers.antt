use Rattle.std.proofs.Common.{◌∙◌, ◌+◌, ◌&&◌, eqb, length, sym, ap, List}
use Rattle.vol_state.specs.declared.record.VolRecord.{VolRecord}
use Rattle.vol_state.proofs.Runs.{run_more}
use Rattle.vol_state.proofs.journal.Journal.push.Goals as goal

pub invariant_of-self : goal.invariant_of-self
invariant_of-self c h =
    let said = c.runs_on-self-inside.ensures ∙ ap (λ (rs : List VolRecord). c.self.inside.runs && eqb c.args.entry.usn (9 + length rs)) c.as_slice.ensures in
    rw c.push.ensures.items (run_more c.self.inside.runs c.self.inside.records.items c.args.entry c.self.invariant (sym said ∙ h))
