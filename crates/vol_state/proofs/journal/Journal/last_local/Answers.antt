use Rattle.std.proofs.Common.{◌∙◌, ap}
use Rattle.vol_state.specs.Journal.{last_local}
use Rattle.vol_state.proofs.Recent.{pending_all}
use Rattle.vol_state.proofs.journal.Journal.last_local.Goals as goal

pub returns : goal.returns
returns c = c.last_pending.ensures ∙ pending_all c.as_slice.result.now c.args.uid ∙ ap (λ rs. last_local rs c.args.uid) c.as_slice.ensures
