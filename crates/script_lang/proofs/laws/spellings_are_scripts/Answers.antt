use Rattle.script_lang.proofs.Scripts.{spellings_are_scripts}
use Rattle.script_lang.proofs.laws.spellings_are_scripts.Goals as goal

pub returns : goal.returns
returns c = spellings_are_scripts
