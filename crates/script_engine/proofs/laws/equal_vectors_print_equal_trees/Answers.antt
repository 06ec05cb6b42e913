use Rattle.script_engine.proofs.Equal.{fresh_alike, records_print_alike, vectors_print_alike}
use Rattle.script_engine.proofs.laws.equal_vectors_print_equal_trees.Goals as goal

pub returns-clause-vectors : goal.returns-clause-vectors
returns-clause-vectors c = vectors_print_alike

pub returns-clause-records : goal.returns-clause-records
returns-clause-records c = records_print_alike

pub returns-clause-fresh : goal.returns-clause-fresh
returns-clause-fresh c = fresh_alike
