use Rattle.script_lang.proofs.Scripts.{lines_stand_in_rows}
use Rattle.script_lang.proofs.laws.lines_stand_in_rows.Goals as goal

pub returns : goal.returns
returns c = lines_stand_in_rows
