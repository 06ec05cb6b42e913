use Rattle.dfsr.proofs.Behind.{big_is_one}
use Rattle.dfsr.proofs.laws.big_texts_are_one.Goals as goal

pub returns : goal.returns
returns c = big_is_one
