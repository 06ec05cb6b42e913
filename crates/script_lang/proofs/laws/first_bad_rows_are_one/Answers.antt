use Rattle.script_lang.proofs.Scripts.{first_bad_rows_are_one}
use Rattle.script_lang.proofs.laws.first_bad_rows_are_one.Goals as goal

pub returns : goal.returns
returns c = first_bad_rows_are_one
