use Rattle.script_engine.proofs.Lasting.{equal_records_of}
use Rattle.script_engine.proofs.laws.equal_vectors_have_equal_records.Goals as goal

pub returns : goal.returns
returns c = equal_records_of
