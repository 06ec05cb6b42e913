use Rattle.vol_state.proofs.Tabling.{tests_are_tables}
use Rattle.vol_state.proofs.laws.tests_are_tables.Goals as goal

pub returns : goal.returns
returns c = tests_are_tables
