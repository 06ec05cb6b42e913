use Rattle.vol_state.proofs.Tabling.{tables_are_tests}
use Rattle.vol_state.proofs.laws.tables_are_tests.Goals as goal

pub returns : goal.returns
returns c = tables_are_tests
