use Rattle.script_lang.proofs.Scripts.{scripts_have_one_list}
use Rattle.script_lang.proofs.laws.scripts_have_one_list.Goals as goal

pub returns : goal.returns
returns c = scripts_have_one_list
