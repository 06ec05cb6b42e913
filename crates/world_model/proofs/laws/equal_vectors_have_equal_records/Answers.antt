use Rattle.world_model.proofs.Headline.{equal_records}
use Rattle.world_model.proofs.laws.equal_vectors_have_equal_records.Goals as goal

pub returns : goal.returns
returns c = equal_records
