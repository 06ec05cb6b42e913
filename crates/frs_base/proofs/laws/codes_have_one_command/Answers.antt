use Rattle.frs_base.proofs.MachineLemmas.{one_command}
use Rattle.frs_base.proofs.laws.codes_have_one_command.Goals as goal

pub returns : goal.returns
returns g c = one_command g.M.Machine.law g.met.M.Machine.lawful
