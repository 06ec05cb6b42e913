use Rattle.world_model.proofs.Pending.{members_have_one_answer}
use Rattle.world_model.proofs.laws.members_have_one_answer.Goals as goal

pub returns : goal.returns
returns c = members_have_one_answer
