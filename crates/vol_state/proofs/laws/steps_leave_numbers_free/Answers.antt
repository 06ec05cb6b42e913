use Rattle.vol_state.proofs.Numbering.{leaves_numbers_free}
use Rattle.vol_state.proofs.laws.steps_leave_numbers_free.Goals as goal

pub returns : goal.returns
returns c = leaves_numbers_free
