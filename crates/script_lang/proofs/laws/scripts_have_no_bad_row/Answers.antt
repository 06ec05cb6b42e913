use Rattle.script_lang.proofs.Scripts.{scripts_have_no_bad_row}
use Rattle.script_lang.proofs.laws.scripts_have_no_bad_row.Goals as goal

pub returns : goal.returns
returns c = scripts_have_no_bad_row
