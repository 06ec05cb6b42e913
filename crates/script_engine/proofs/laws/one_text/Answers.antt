use Rattle.script_engine.proofs.OneText.{one_text}
use Rattle.script_engine.proofs.laws.one_text.Goals as goal

pub returns : goal.returns
returns c = one_text
